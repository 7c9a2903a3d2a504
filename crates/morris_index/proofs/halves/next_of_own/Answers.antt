use Rattle.std.proofs.Common.{◌≡◌, rules}
use Rattle.morris_board.specs.Positions.{sides}
use Rattle.morris_index.proofs.Following.{next_index}
use Rattle.morris_index.proofs.halves.next_of_own.Goals as goal

pub returns-in-Ok-clause-index : goal.returns-in-Ok-clause-index
returns-in-Ok-clause-index g c =
    let made : c.in-Ok.next ≡ sides c.args.position.now.own c.in_ok-other.other = search rules in
    rw made (next_index g.B.Geometry.POINTS c.args.position.now.own c.args.position.now.other c.in_ok-other.other
    (rw (c.POINTS.ensures, c.own-own.ensures.points, c.other.ensures.points) at c.in_ok-other.ensures))
