use Rattle.std.proofs.Common.{◌<◌, ◌^◌, sym, subst, arith}
use Rattle.morris_board.specs.Symmetries.{image_of}
use Rattle.morris_index.proofs.ClassLaws.{image_within, image_count}
use Rattle.morris_pairs.proofs.row_unmoves.is_in_transversal.Goals as goal

pub class_of-transversal-requires-clause-within : goal.class_of-transversal-requires-clause-within
class_of-transversal-requires-clause-within g c =
    rw c.image_of.ensures
    (subst (λ n. image_of (g.B.Geometry.shape.image c.args.symmetry) c.args.stones < 2 ^ n) g.met.B.Geometry.point_count
    (image_within g.B.Geometry.shape (omega (arith, g.met.B.Geometry.few, g.met.B.Geometry.point_count)) g.met.B.Geometry.has_symmetries c.args.stones
    (subst (λ n. c.args.stones < 2 ^ n) (sym g.met.B.Geometry.point_count) c.requires.stones) c.args.symmetry (omega (arith, c.requires.symmetry, g.met.B.Geometry.symmetry_count))))

pub class_of-transversal-requires-clause-count : goal.class_of-transversal-requires-clause-count
class_of-transversal-requires-clause-count g c =
    rw (
      c.image_of.ensures,
      image_count g.B.Geometry.shape (omega (arith, g.met.B.Geometry.few, g.met.B.Geometry.point_count)) g.met.B.Geometry.has_symmetries c.args.stones
          (subst (λ n. c.args.stones < 2 ^ n) (sym g.met.B.Geometry.point_count) c.requires.stones) c.args.symmetry
          (omega (arith, c.requires.symmetry, g.met.B.Geometry.symmetry_count)),
    ) c.requires.count
