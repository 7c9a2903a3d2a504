use Rattle.std.proofs.Common.{arith}
use Rattle.std.proofs.lemmas.Bool.{both_ways}
use Rattle.morris_board.specs.Sets.{has}
use Rattle.morris_index.specs.Classes.{symmetry_of}
use Rattle.morris_index.proofs.ClassLaws.{has_first, least_canonicalizing, symmetry_within}
use Rattle.morris_index.proofs.Following.{none_before, none_at_all}
use Rattle.morris_index.proofs.classes.least_canonicalizing.Goals as goal

pub unreachable-requires : goal.unreachable-requires
unreachable-requires g c =
    both_ways (has c.args.canonicalizing (symmetry_of g.B.Geometry.shape c.args.set))
    (none_at_all c.args.canonicalizing c.in-None.ensures.rest (symmetry_of g.B.Geometry.shape c.args.set)
    (omega (arith, symmetry_within g.B.Geometry.shape (omega (arith, g.met.B.Geometry.few, g.met.B.Geometry.point_count)) g.met.B.Geometry.has_symmetries c.args.set (rw g.met.B.Geometry.point_count c.requires.within), g.met.B.Geometry.symmetry_count, g.met.B.Geometry.few_symmetries)))
    (has_first g.B.Geometry.shape c.args.set c.args.canonicalizing g.met.B.Geometry.has_symmetries.some c.requires.canonicalizing)

pub returns-clause-symmetry : goal.returns-clause-symmetry
returns-clause-symmetry g c =
    least_canonicalizing g.B.Geometry.shape c.args.set c.args.canonicalizing c.in-Some.symmetry g.met.B.Geometry.has_symmetries.some c.requires.canonicalizing c.in-Some.ensures.point.1
    (none_before c.args.canonicalizing c.in-Some.symmetry _ c.in-Some.ensures.rest)

pub returns-clause-one : goal.returns-clause-one
returns-clause-one g c =
    omega (
      arith,
      returns-clause-symmetry g c,
      symmetry_within g.B.Geometry.shape (omega (arith, g.met.B.Geometry.few, g.met.B.Geometry.point_count)) g.met.B.Geometry.has_symmetries c.args.set (rw g.met.B.Geometry.point_count c.requires.within),
      g.met.B.Geometry.symmetry_count,
    )
