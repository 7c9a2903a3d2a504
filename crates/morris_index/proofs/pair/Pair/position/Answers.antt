use Rattle.std.proofs.Common.{◌∙◌, ◌≤◌, sym, arith}
use Rattle.morris_index.specs.Numbering.{half_size}
use Rattle.morris_index.proofs.IndexLaws.{placed, second_half, index-in_first, index-in_second, index-same, is_of-first, is_of-second}
use Rattle.morris_index.proofs.pair.Pair.position.Goals as goal

pub half_position-requires-else-index-first-clause-small : goal.half_position-requires-else-index-first-clause-small
half_position-requires-else-index-first-clause-small g c =
    rw c.half_size-first.ensures.value
    ((second_half g.B.Geometry.POINTS _ c.args.index (rw (← c.self.view_is) at c.requires) (rw c.half_size-first.ensures.value at c.if-index-first.false)).1)

pub returns-then-index-first-clause-index : goal.returns-then-index-first-clause-index
returns-then-index-first-clause-index g c =
    rw (← c.self.view_is) (index-in_first g.B.Geometry.POINTS _ c.half_position.result c.args.index c.half_position.ensures.counts c.half_position.ensures.index)

pub returns-else-index-first-clause-index : goal.returns-else-index-first-clause-index
returns-else-index-first-clause-index g c =
    let low : half_size g.B.Geometry.POINTS c.self.inside.greater c.self.inside.lesser ≤ c.args.index = rw c.half_size-first.ensures.value at c.if-index-first.false in
    rw (← c.self.view_is) (index-in_second g.B.Geometry.POINTS _ c.half_position-else-index-first.result c.args.index
    ((second_half g.B.Geometry.POINTS _ c.args.index (rw (← c.self.view_is) at c.requires) low).0) c.half_position-else-index-first.ensures.counts low
    (rw c.half_size-first.ensures.value at c.half_position-else-index-first.ensures.index))

pub returns-then-index-first-clause-alone : goal.returns-then-index-first-clause-alone
returns-then-index-first-clause-alone g c = λ s h of e.
    index-same g.B.Geometry.POINTS c.args.self.now (omega (arith, g.met.B.Geometry.few)) c.half_position.result s
    (placed g.B.Geometry.shape g.B.Geometry.POINTS c.half_position.result g.met.B.Geometry.point_count c.half_position.ensures.lawful)
    (placed g.B.Geometry.shape g.B.Geometry.POINTS s g.met.B.Geometry.point_count h)
    (rw (← c.self.view_is) (is_of-first _ c.half_position.result c.half_position.ensures.counts)) of
    (returns-then-index-first-clause-index g c ∙ sym e)

pub returns-else-index-first-clause-alone : goal.returns-else-index-first-clause-alone
returns-else-index-first-clause-alone g c = λ s h of e.
    index-same g.B.Geometry.POINTS c.args.self.now (omega (arith, g.met.B.Geometry.few)) c.half_position-else-index-first.result s
    (placed g.B.Geometry.shape g.B.Geometry.POINTS c.half_position-else-index-first.result g.met.B.Geometry.point_count c.half_position-else-index-first.ensures.lawful)
    (placed g.B.Geometry.shape g.B.Geometry.POINTS s g.met.B.Geometry.point_count h)
    (rw (← c.self.view_is) (is_of-second _ c.half_position-else-index-first.result c.half_position-else-index-first.ensures.counts)) of
    (returns-else-index-first-clause-index g c ∙ sym e)
