use Rattle.std.proofs.Common.{◌≤◌, refl, arith}
use Rattle.morris_index.specs.Binomials.{choose}
use Rattle.morris_index.specs.Classes.{class_count}
use Rattle.morris_index.specs.ClassPairs.{class_half_size}
use Rattle.morris_index.proofs.ClassPairLaws.{class_size-few}
use Rattle.morris_index.proofs.class_sizes.class_half_size.Goals as goal

pub returns-clause-value : goal.returns-clause-value
unfolding class_half_size
returns-clause-value g c = rw (c.from.ensures, c.requires.classes, c.binomial.ensures.value, c.POINTS.ensures) refl

pub returns-clause-few : goal.returns-clause-few
returns-clause-few g c =
    let le : class_count g.B.Geometry.shape c.args.own ≤ choose g.B.Geometry.POINTS c.args.own =
    omega (arith, c.requires.classes, c.requires.few) in
    rw (returns-clause-value g c) (class_size-few g.B.Geometry.shape g.B.Geometry.POINTS (omega (arith, g.met.B.Geometry.few)) g.met.B.Geometry.point_count g.met.B.Geometry.has_symmetries c.args.own c.args.other c.requires.half le)
