use Rattle.std.proofs.Common.{◌≡◌, ◌≢◌, sym, arith}
use Rattle.morris_index.proofs.ClassPairLaws.{size-one, size-two}
use Rattle.morris_index.proofs.class_pair.ClassPair.size.Goals as goal

pub returns-then-greater-lesser-clause-value : goal.returns-then-greater-lesser-clause-value
returns-then-greater-lesser-clause-value g c =
    let same : c.self.inside.pair.greater ≡ c.self.inside.pair.lesser = rw (← c.greater-greater.ensures.value, ← c.lesser-lesser.ensures.value) c.if-greater-lesser.true in
    rw (c.self.invariant.0, ← c.self.view_is)
    (sym (size-one g.B.Geometry.shape g.B.Geometry.POINTS (omega (arith, g.met.B.Geometry.few)) g.met.B.Geometry.point_count g.met.B.Geometry.has_symmetries c.self.inside.pair same))

pub returns-else-greater-lesser-clause-value : goal.returns-else-greater-lesser-clause-value
returns-else-greater-lesser-clause-value g c =
    let differ : c.self.inside.pair.greater ≢ c.self.inside.pair.lesser = rw (← c.greater-greater.ensures.value, ← c.lesser-lesser.ensures.value) c.if-greater-lesser.false in
    rw (c.self.invariant.0, c.class_half_size.ensures.value, c.greater-greater.ensures.value, c.lesser-lesser.ensures.value, ← c.self.view_is)
    (sym (size-two g.B.Geometry.shape g.B.Geometry.POINTS (omega (arith, g.met.B.Geometry.few)) g.met.B.Geometry.point_count g.met.B.Geometry.has_symmetries c.self.inside.pair differ))
