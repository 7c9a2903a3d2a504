use Rattle.std.proofs.Common.{◌≤◌, length, sym, subst, arith}
use Rattle.morris_index.proofs.FallLaws.{falls-few}
use Rattle.morris_index.proofs.class_pair.ClassPair.orbit_of.Goals as goal

pub returns-clause-few : goal.returns-clause-few
returns-clause-few g c =
    subst (λ list. length list ≤ g.B.Geometry.SYMMETRIES) (sym c.of.ensures)
    (omega (arith, falls-few g.B.Geometry.shape c.args.position, g.met.B.Geometry.symmetry_count))
