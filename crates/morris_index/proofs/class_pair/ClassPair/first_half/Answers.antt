use Rattle.std.proofs.Common.{arith}
use Rattle.morris_index.proofs.ClassPairLaws.{first_fits}
use Rattle.morris_index.proofs.class_pair.ClassPair.first_half.Goals as goal

pub returns-clause-within : goal.returns-clause-within
returns-clause-within g c =
    rw (c.self.invariant.0, ← c.self.view_is)
    (first_fits g.B.Geometry.shape g.B.Geometry.POINTS (omega (arith, g.met.B.Geometry.few)) g.met.B.Geometry.point_count g.met.B.Geometry.has_symmetries c.self.inside.pair)
