use Rattle.std.proofs.Common.{◌≡◌, ℕ, ◌+◌, ◌<◌, length, get_or, take}
use Rattle.morris_wave.specs.Nets.{times}
use Rattle.morris_pairs.specs.Tables.{greatest_code}
use Rattle.morris_pairs.proofs.exact.count_codes.Given as goal

abbrev pub invariant-loop-code : goal.invariant-loop-code
invariant-loop-code l = record {
  room : length l.tallies.items ≡ greatest_code l.codes + 1;
  counted : (k : ℕ) → k < length l.tallies.items → get_or l.tallies.items k 0 ≡ times k (take l.code-index l.codes);
}
