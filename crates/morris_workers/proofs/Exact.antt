-- A block is exact at every wave, with any sources applied.
use Rattle.std.proofs.Common.{ℕ, suc, ◌<◌, Bool, sym, subst, ◌∙◌, ⊎_elim, arith}
use Rattle.std.proofs.lemmas.Bool.{cases_Bool, cond-true, cond-false}
use Rattle.std.proofs.lemmas.List.FromFn.{length-map-range_with_len}
use Rattle.morris_wave.specs.Nets.{Net}
use Rattle.morris_wave.specs.Values.{HasCode, code_within}
use Rattle.morris_wave.specs.Waves.{entry_at, is_decided_at}
use Rattle.morris_wave.specs.Blocks.{BlockState, in_applied, entries_of, count_of, first_node}
use Rattle.morris_wave.proofs.Known.{entry_code, entry_open}
use Rattle.morris_wave.proofs.Settled.{three_kinds}
use Rattle.morris_workers.specs.Exact.{IsExact}

pub is_exact : (g : Net) (s : BlockState) → IsExact g s
is_exact g s = record {
  code = λ i inside some. entry_code g s.wave (in_applied s) i some;
  undecided = λ i inside. entry_open g s.wave (in_applied s) i;
  counted = three_kinds (entries_of g s) ∙ length-map-range_with_len (entry_at g s.wave (in_applied s)) (first_node s) (count_of s);
}
