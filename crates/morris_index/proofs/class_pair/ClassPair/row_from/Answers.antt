use Rattle.std.proofs.Common.{◌≤◌, ◌∙◌, arith}
use Rattle.morris_index.specs.ClassPairs.{class_half_size}
use Rattle.morris_index.proofs.ClassPairLaws.{second_half}
use Rattle.morris_index.proofs.EntryRowLaws.{first_row, second_row, row_inside}
use Rattle.morris_index.proofs.class_pair.ClassPair.row_from.Goals as goal

pub of-requires : goal.of-requires
of-requires g c =
    first_row g.B.Geometry.shape g.B.Geometry.POINTS c.self.inside.pair c.greater-greater.ensures.lawful c.args.index c.row-own.result.0 c.row-own.result.1.now
    (c.row-own.ensures.count ∙ c.greater-greater.ensures.value)
    (rw c.lesser-lesser.ensures.value at c.row-own.ensures.row)

pub row-own-requires-else-index-self-clause-small : goal.row-own-requires-else-index-self-clause-small
row-own-requires-else-index-self-clause-small g c =
    let past = rw c.self.invariant.0 at c.if-index-self.false in
    rw (c.self.invariant.0, c.greater-greater.ensures.value, c.lesser-lesser.ensures.value)
    (second_half g.B.Geometry.shape g.B.Geometry.POINTS (omega (arith, g.met.B.Geometry.few)) g.met.B.Geometry.point_count g.met.B.Geometry.has_symmetries c.self.inside.pair c.args.index (rw (← c.self.view_is) at c.requires) past).1

pub of-requires-else-index-self : goal.of-requires-else-index-self
of-requires-else-index-self g c =
    let past : class_half_size g.B.Geometry.shape g.B.Geometry.POINTS c.self.inside.pair.greater c.self.inside.pair.lesser ≤ c.args.index =
    rw c.self.invariant.0 at c.if-index-self.false in
    let differ = (second_half g.B.Geometry.shape g.B.Geometry.POINTS (omega (arith, g.met.B.Geometry.few)) g.met.B.Geometry.point_count g.met.B.Geometry.has_symmetries c.self.inside.pair c.args.index (rw (← c.self.view_is) at c.requires) past).0 in
    second_row g.B.Geometry.shape g.B.Geometry.POINTS c.self.inside.pair c.greater-greater.ensures.lawful c.args.index c.row-own-else-index-self.result.0 c.row-own-else-index-self.result.1.now
    differ (c.row-own-else-index-self.ensures.count ∙ c.lesser-lesser.ensures.value) past
    (rw (c.self.invariant.0, c.greater-greater.ensures.value) at c.row-own-else-index-self.ensures.row)

pub returns-then-index-self-clause-inside : goal.returns-then-index-self-clause-inside
returns-then-index-self-clause-inside g c =
    let row =
    first_row g.B.Geometry.shape g.B.Geometry.POINTS c.self.inside.pair c.greater-greater.ensures.lawful c.args.index c.row-own.result.0 c.row-own.result.1.now
    (c.row-own.ensures.count ∙ c.greater-greater.ensures.value)
    (rw c.lesser-lesser.ensures.value at c.row-own.ensures.row) in
    rw (c.of.ensures, ← c.self.view_is) (row_inside g.B.Geometry.shape g.B.Geometry.POINTS (omega (arith, g.met.B.Geometry.few)) g.met.B.Geometry.point_count g.met.B.Geometry.has_symmetries _ _ row)

pub returns-else-index-self-clause-inside : goal.returns-else-index-self-clause-inside
returns-else-index-self-clause-inside g c =
    let past : class_half_size g.B.Geometry.shape g.B.Geometry.POINTS c.self.inside.pair.greater c.self.inside.pair.lesser ≤ c.args.index =
    rw c.self.invariant.0 at c.if-index-self.false in
    let differ = (second_half g.B.Geometry.shape g.B.Geometry.POINTS (omega (arith, g.met.B.Geometry.few)) g.met.B.Geometry.point_count g.met.B.Geometry.has_symmetries c.self.inside.pair c.args.index (rw (← c.self.view_is) at c.requires) past).0 in
    let row =
    second_row g.B.Geometry.shape g.B.Geometry.POINTS c.self.inside.pair c.greater-greater.ensures.lawful c.args.index c.row-own-else-index-self.result.0 c.row-own-else-index-self.result.1.now
    differ (c.row-own-else-index-self.ensures.count ∙ c.lesser-lesser.ensures.value) past
    (rw (c.self.invariant.0, c.greater-greater.ensures.value) at c.row-own-else-index-self.ensures.row) in
    rw (c.of-else-index-self.ensures, ← c.self.view_is) (row_inside g.B.Geometry.shape g.B.Geometry.POINTS (omega (arith, g.met.B.Geometry.few)) g.met.B.Geometry.point_count g.met.B.Geometry.has_symmetries _ _ row)
