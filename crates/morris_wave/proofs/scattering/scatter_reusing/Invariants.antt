use Rattle.std.proofs.Common.{◌≡◌, ℕ, ◌<◌, ◌++◌, length, slice_index_or}
use Rattle.morris_wave.specs.Batches.{BatchState}
use Rattle.morris_wave.specs.Scattering.{IsBatchOf}
use Rattle.morris_wave.proofs.scattering.scatter_reusing.Given as goal

abbrev pub invariant-loop-nodes : goal.invariant-loop-nodes
invariant-loop-nodes g l =
    (length l.batches.items ≡ length l.yielded)
    × (l.initial.nodes-iterator.rest.items ≡ l.yielded ++ l.nodes-iterator.rest.items)
    × ((t : ℕ) (d : BatchState) → t < length l.batches.items → IsBatchOf (g.N.Levels.net l.fresh.level) l.fresh t (slice_index_or l.batches.items t d))
