-- The rings so far stand in the order of the outer rings.
use Rattle.std.proofs.Common.{◌≡◌, ℕ, ◌/◌, ◌%◌, ◌<◌, get_or, vec_len}
use Rattle.morris_index.specs.Parts.{squeeze_below}
use Rattle.morris_index.proofs.rings.RingTable.make.Given as goal

abbrev pub invariant-loop-at : goal.invariant-loop-at
invariant-loop-at l = record {
  len : vec_len l.rings ≡ l.at;
  each : (k : ℕ) → k < l.at → get_or l.rings.items k 0 ≡ squeeze_below (k / 256) (k % 256) 8;
}
