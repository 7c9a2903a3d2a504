use Rattle.std.proofs.Common.{arith}
use Rattle.morris_index.proofs.ClassPairLaws.{index-lt}
use Rattle.morris_lookup.proofs.numbering.Numbering.entry.Goals as goal

pub returns-in-Classes-clause-below : goal.returns-in-Classes-clause-below
returns-in-Classes-clause-below g c = λ lists_fit.
    let right = rw c.in-Classes.is at lists_fit in
    let below = index-lt g.B.Geometry.shape g.B.Geometry.POINTS (omega (arith, g.met.B.Geometry.few)) g.met.B.Geometry.point_count g.met.B.Geometry.has_symmetries c.args.self.now.pair
    c.args.position.now c.own.ensures.lawful c.requires.of in
    rw c.in-Classes.is (omega (arith, below, c.class_index.ensures.value right.0 right.1 right.2 right.3))
