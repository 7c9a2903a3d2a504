use Rattle.std.proofs.Common.{◌≡◌, ℕ, ◌<◌, slice_index_or}
use Rattle.morris_wave.specs.Blocks.{BlockState}
use Rattle.morris_wave.proofs.gathering.are_in_order.Given as goal

abbrev pub invariant-loop-place : goal.invariant-loop-place
invariant-loop-place g l = (k : ℕ) (d : BlockState) → k < l.place → (slice_index_or l.blocks k d).number ≡ k
