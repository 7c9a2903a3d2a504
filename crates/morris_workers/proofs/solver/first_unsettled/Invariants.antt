use Rattle.std.proofs.Common.{ℕ, ◌<◌, length, slice_index_or}
use Rattle.morris_wave.specs.Blocks.{BlockState, IsSettled}
use Rattle.morris_workers.proofs.solver.first_unsettled.Given as goal

abbrev pub invariant-loop-place : goal.invariant-loop-place
invariant-loop-place g l = (k : ℕ) (d : BlockState) → k < l.place
    → IsSettled (g.N.Levels.net (slice_index_or l.blocks k d).level) (slice_index_or l.blocks k d) × ((slice_index_or l.blocks k d).number < length l.blocks)
