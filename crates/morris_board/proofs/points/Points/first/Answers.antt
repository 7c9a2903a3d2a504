use Rattle.std.proofs.Common.{◌≡◌, ◌<◌, ◌∙◌, ap, arith}
use Rattle.morris_board.specs.Sets.{members}
use Rattle.morris_board.proofs.PointsLaws.{members-none, first_is}
use Rattle.morris_board.proofs.points.Points.first.Goals as goal

pub returns-then-self-eq0-clause-rest : goal.returns-then-self-eq0-clause-rest
returns-then-self-eq0-clause-rest c =
    let none : c.args.self ≡ 0 = omega (arith, c.self.view_is) in ap members none ∙ members-none

pub returns-clause-point : goal.returns-clause-point
returns-clause-point c =
    let some : 0 < c.self.inside.mask = omega arith in
    let first = first_is c.self.inside.mask some c.self.invariant in
    rw (← c.self.view_is) (first.low, first.here)

pub returns-clause-rest : goal.returns-clause-rest
returns-clause-rest c =
    let some : 0 < c.self.inside.mask = omega arith in
    rw (← c.self.view_is) (first_is c.self.inside.mask some c.self.invariant).rest
