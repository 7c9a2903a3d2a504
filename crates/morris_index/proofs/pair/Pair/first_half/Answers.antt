use Rattle.morris_index.proofs.IndexLaws.{size-ge}
use Rattle.morris_index.proofs.pair.Pair.first_half.Goals as goal

pub returns-clause-within : goal.returns-clause-within
returns-clause-within g c = rw (c.half_size.ensures.value, ← c.self.view_is) (size-ge g.B.Geometry.POINTS _)
