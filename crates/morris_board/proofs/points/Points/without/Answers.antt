use Rattle.std.proofs.Common.{◌∙◌, ap}
use Rattle.morris_board.specs.Sets.{without_point}
use Rattle.morris_board.proofs.PointsLaws.{without_point-and}
use Rattle.morris_board.proofs.points.Points.without.Goals as goal

pub returns : goal.returns
returns c =
    without_point-and c.self.inside.mask c.args.point c.self.invariant c.requires ∙ ap (λ s. without_point s c.args.point) c.self.view_is
