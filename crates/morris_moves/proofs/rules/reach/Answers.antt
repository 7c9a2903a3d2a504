use Rattle.std.proofs.Common.{◌≡◌, ◌∙◌, ap}
use Rattle.morris_board.specs.Sets.{count_of}
use Rattle.morris_moves.proofs.MaskLaws.{IsSteps, steps-known, reach-steps}
use Rattle.morris_moves.proofs.rules.reach.Goals as goal

pub returns : goal.returns
returns g c =
    let stones : c.count.result ≡ count_of c.args.position.now.own = c.count.ensures.value ∙ ap count_of c.own.ensures.points in
    let near : IsSteps g.B.Geometry.shape (count_of c.args.position.now.own) c.args.from c.steps.result =
    steps-known g.B.Geometry.shape g.B.Geometry.POINTS (count_of c.args.position.now.own) c.args.from c.steps.result g.met.B.Geometry.point_count
    (rw (← stones) c.steps.ensures) in
    reach-steps g.B.Geometry.shape c.args.position.now c.args.from c.steps.result c.vacant.result c.intersection.result near
    (λ p. rw g.met.B.Geometry.point_count (c.vacant.ensures p)) c.intersection.ensures
