use Rattle.std.proofs.Common.{◌≤◌, sym, arith}
use Rattle.morris_moves.proofs.LegalLaws.{takable_above}
use Rattle.std.proofs.lemmas.Bool.{and_right}
use Rattle.morris_moves.proofs.rules.takes_rightly.Goals as goal

pub returns-in-Some-2 : goal.returns-in-Some-2
returns-in-Some-2 g c =
    let high : g.B.Geometry.shape.points ≤ c.in-Some.point = omega (arith, g.met.B.Geometry.point_count) in
    rw c.in-Some.is (sym (and_right _ _ (takable_above g.B.Geometry.shape c.args.position.now c.in-Some.point c.own.ensures.lawful.stones high)))
