-- The move is legal, so its result is a position.
use Rattle.std.proofs.Common.{◌≡◌, ◌≤◌, sym, ap, ◌∙◌, arith}
use Rattle.morris_board.specs.Positions.{sides, check_sides}
use Rattle.morris_moves.specs.Rules.{result_of}
use Rattle.morris_moves.proofs.LegalLaws.{IsLegalMove, listed_move, taken_low}
use Rattle.morris_moves.proofs.ResultLaws.{IsApart-result, made-result, are_result}
use Rattle.morris_moves.proofs.rules.play.Given as given
use Rattle.morris_moves.proofs.rules.play.Goals as goal
use Rattle.morris_moves.proofs.rules.play.Goals.{After-own, After-left_of-other}

small : (g : given.Over) → g.B.Geometry.shape.points ≤ 24
small g = omega (arith, g.met.B.Geometry.few, g.met.B.Geometry.point_count)

move : (g : given.Over) (c : After-own g) → IsLegalMove g.B.Geometry.shape c.args.position.now c.args.m
move g c = listed_move g.B.Geometry.shape c.args.position.now (small g) c.own.ensures.lawful.stones c.args.m c.requires

same : (g : given.Over) (c : After-left_of-other g) → sides c.left_of-other.result c.move_stone-own.result ≡ result_of c.args.position.now c.args.m
same g c =
    are_result c.args.position.now c.args.m c.own.result c.other.result c.move_stone-own.result c.left_of-other.result
    c.own.ensures.points c.other.ensures.points c.move_stone-own.ensures c.left_of-other.ensures

pub move_stone-own-requires : goal.move_stone-own-requires
move_stone-own-requires g c =
    let is = move g (goal.at.move_stone-own-requires g c).After-own in
    record { start = omega (arith, is.from_within, small g); end = omega (arith, is.to_within, small g) }

pub left_of-other-requires : goal.left_of-other-requires
left_of-other-requires g c =
    taken_low g.B.Geometry.shape c.args.position.now (small g) c.own.ensures.lawful.stones c.args.m (move g (goal.at.left_of-other-requires g c).After-own)

pub new-requires : goal.new-requires
new-requires g c =
    rw (same g (goal.at.new-requires g c).After-left_of-other)
    (IsApart-result g.B.Geometry.shape c.args.position.now (small g) c.own.ensures.lawful c.args.m (move g (goal.at.new-requires g c).After-own))

pub unreachable-requires : goal.unreachable-requires
unreachable-requires g c =
    let good = made-result g.B.Geometry.shape c.args.position.now (small g) c.own.ensures.lawful c.args.m (move g (goal.at.unreachable-requires g c).After-own) in
    let is = sym c.in-Err.is ∙ c.new.ensures ∙ ap check_sides (same g (goal.at.unreachable-requires g c).After-left_of-other) ∙ good in
    cc

pub returns : goal.returns
returns g c =
    let good = made-result g.B.Geometry.shape c.args.position.now (small g) c.own.ensures.lawful c.args.m (move g (goal.at.returns g c).After-own) in
    let is = sym c.in-Ok.is ∙ c.new.ensures ∙ ap check_sides (same g (goal.at.returns g c).After-left_of-other) ∙ good in
    cc
