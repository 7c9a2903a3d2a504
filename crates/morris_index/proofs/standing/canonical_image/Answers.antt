-- The identity leaves each set as it is.
use Rattle.std.proofs.Common.{◌∙◌, ◌<◌, ◌^◌, ap, sym, subst, arith}
use Rattle.morris_board.specs.Symmetries.{image_of}
use Rattle.morris_index.proofs.ClassLaws.{image_none}
use Rattle.morris_index.proofs.standing.canonical_image.Goals as goal

pub returns-then-symmetry-eq0 : goal.returns-then-symmetry-eq0
returns-then-symmetry-eq0 g c =
    sym (ap (λ s. image_of (g.B.Geometry.shape.image s) c.args.set) c.if-symmetry-eq0.true
    ∙ image_none g.B.Geometry.shape (omega (arith, g.met.B.Geometry.few, g.met.B.Geometry.point_count)) g.met.B.Geometry.has_symmetries c.args.set
    (subst (λ n. c.args.set < 2 ^ n) (sym g.met.B.Geometry.point_count) c.requires.within))
