use Rattle.std.proofs.Common.{◌∙◌, arith}
use Rattle.std.proofs.Math.Nat.{mod-lt}
use Rattle.morris_index.proofs.ClassPairLaws.{choices_some, class_part-lt}
use Rattle.morris_index.proofs.EntryRowLaws.{half_row}
use Rattle.morris_index.proofs.class_halves.CountTables.row.Goals as goal

pub nonzero_div-index : goal.nonzero_div-index
nonzero_div-index g c = rw c.requires.tables.choices (choices_some g.B.Geometry.shape g.B.Geometry.POINTS (omega (arith, g.met.B.Geometry.few)) g.met.B.Geometry.point_count g.met.B.Geometry.has_symmetries c.args.own c.args.other c.args.index c.requires.small)

pub nonzero_rem-index : goal.nonzero_rem-index
nonzero_rem-index g c = rw c.requires.tables.choices (choices_some g.B.Geometry.shape g.B.Geometry.POINTS (omega (arith, g.met.B.Geometry.few)) g.met.B.Geometry.point_count g.met.B.Geometry.has_symmetries c.args.own c.args.other c.args.index c.requires.small)

pub representative-own_points-requires : goal.representative-own_points-requires
representative-own_points-requires g c =
    rw (c.requires.tables.choices, c.requires.tables.classes) (class_part-lt g.B.Geometry.shape g.B.Geometry.POINTS (omega (arith, g.met.B.Geometry.few)) g.met.B.Geometry.point_count g.met.B.Geometry.has_symmetries c.args.own c.args.other c.args.index c.requires.small)

pub overflow_cast-index : goal.overflow_cast-index
overflow_cast-index g c =
    omega (arith, representative-own_points-requires g c, c.count.ensures.value, c.count.type_inv)

pub sets_from-requires : goal.sets_from-requires
sets_from-requires g c =
    rw (c.requires.tables.choices, c.requires.tables.left_free, c.requires.tables.others)
    (mod-lt c.args.index (choices_some g.B.Geometry.shape g.B.Geometry.POINTS (omega (arith, g.met.B.Geometry.few)) g.met.B.Geometry.point_count g.met.B.Geometry.has_symmetries c.args.own c.args.other c.args.index c.requires.small))

pub returns-clause-row : goal.returns-clause-row
returns-clause-row g c =
    half_row g.B.Geometry.shape g.B.Geometry.POINTS c.args.own c.args.other c.args.index c.representative-own_points.result c.sets_from.result.now
    c.representative-own_points.ensures.least c.representative-own_points.ensures.within (c.representative-own_points.ensures.count ∙ c.requires.tables.classes)
    (rw c.requires.tables.choices at c.representative-own_points.ensures.class)
    (choices_some g.B.Geometry.shape g.B.Geometry.POINTS (omega (arith, g.met.B.Geometry.few)) g.met.B.Geometry.point_count g.met.B.Geometry.has_symmetries c.args.own c.args.other c.args.index c.requires.small)
    (rw (c.requires.tables.choices, c.requires.tables.left_free, c.requires.tables.others) at c.sets_from.ensures.len)
    (rw (c.requires.tables.choices, c.requires.tables.left_free, c.requires.tables.others) at c.sets_from.ensures.each)
