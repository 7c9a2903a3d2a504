use Rattle.std.proofs.Common.{◌∙◌, ap, length, filter, ltb}
use Rattle.morris_board.specs.Sets.{members}
use Rattle.morris_board.proofs.PointsLaws.{count_below-ones}
use Rattle.morris_board.proofs.points.Points.count_below.Goals as goal

pub returns : goal.returns
returns c =
    count_below-ones c.self.inside.mask c.args.point c.self.invariant c.requires
    ∙ ap (λ s. length (filter (λ q. ltb q c.args.point) (members s))) c.self.view_is
