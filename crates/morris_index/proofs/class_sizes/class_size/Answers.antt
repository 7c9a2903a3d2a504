use Rattle.std.proofs.Common.{◌≡◌, ◌≢◌, sym, arith}
use Rattle.morris_index.proofs.ClassPairLaws.{size-one, size-two}
use Rattle.morris_index.proofs.class_sizes.class_size.Goals as goal

pub returns-then-greater-lesser : goal.returns-then-greater-lesser
returns-then-greater-lesser g c =
    let same : c.args.pair.greater ≡ c.args.pair.lesser = rw (← c.greater-greater.ensures.value, ← c.lesser-lesser.ensures.value) c.if-greater-lesser.true in
    rw (c.class_half_size-first.ensures.value, c.greater-greater.ensures.value, c.lesser-lesser.ensures.value)
    (sym (size-one g.B.Geometry.shape g.B.Geometry.POINTS (omega (arith, g.met.B.Geometry.few)) g.met.B.Geometry.point_count g.met.B.Geometry.has_symmetries c.args.pair same))

pub returns-else-greater-lesser : goal.returns-else-greater-lesser
returns-else-greater-lesser g c =
    let differ : c.args.pair.greater ≢ c.args.pair.lesser = rw (← c.greater-greater.ensures.value, ← c.lesser-lesser.ensures.value) c.if-greater-lesser.false in
    rw (c.class_half_size-first.ensures.value, c.class_half_size.ensures.value, c.greater-greater.ensures.value, c.lesser-lesser.ensures.value)
    (sym (size-two g.B.Geometry.shape g.B.Geometry.POINTS (omega (arith, g.met.B.Geometry.few)) g.met.B.Geometry.point_count g.met.B.Geometry.has_symmetries c.args.pair differ))
