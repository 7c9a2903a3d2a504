use Rattle.std.proofs.Common.{◌≤◌, arith}
use Rattle.morris_moves.proofs.ListingLaws.{moves_left_start}
use Rattle.morris_moves.proofs.OrderLaws.{few_moves}
use Rattle.morris_moves.proofs.list.Moves.new.Goals as goal

pub returns-clause-listed : goal.returns-clause-listed
returns-clause-listed g c = rw c.own.ensures.points (moves_left_start g.B.Geometry.shape c.args.position)

pub returns-clause-few : goal.returns-clause-few
returns-clause-few g c =
    let small : g.B.Geometry.shape.points ≤ 24 = omega (arith, g.met.B.Geometry.few, g.met.B.Geometry.point_count) in
    rw (c.own.ensures.points, moves_left_start g.B.Geometry.shape c.args.position) (few_moves g.B.Geometry.shape c.args.position small c.own.ensures.lawful)
