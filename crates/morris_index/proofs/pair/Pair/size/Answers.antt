use Rattle.std.proofs.Common.{sym}
use Rattle.morris_index.proofs.IndexLaws.{size-one, size-two}
use Rattle.morris_index.proofs.pair.Pair.size.Goals as goal

pub returns-then-self-clause-value : goal.returns-then-self-clause-value
returns-then-self-clause-value g c = rw (c.half_size-first.ensures.value, ← c.self.view_is) (sym (size-one g.B.Geometry.POINTS _ c.if-self.true))

pub returns-else-self-clause-value : goal.returns-else-self-clause-value
returns-else-self-clause-value g c =
    rw (c.half_size-first.ensures.value, c.half_size.ensures.value, ← c.self.view_is) (sym (size-two g.B.Geometry.POINTS _ c.if-self.false))
