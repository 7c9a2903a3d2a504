use Rattle.std.proofs.Common.{◌≡◌, ℕ, ◌<◌, slice_index_or, true, false}
use Rattle.morris_pairs.proofs.chunks.first_unset.Given as goal

abbrev pub invariant-loop-place : goal.invariant-loop-place
invariant-loop-place l = (i : ℕ) → i < l.place → slice_index_or l.marks i false ≡ true
