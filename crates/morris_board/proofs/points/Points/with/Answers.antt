use Rattle.std.proofs.Common.{◌∙◌, ap}
use Rattle.morris_board.specs.Sets.{with_point}
use Rattle.morris_board.proofs.PointsLaws.{with_point-or}
use Rattle.morris_board.proofs.points.Points.with.Goals as goal

pub returns : goal.returns
returns c = with_point-or c.self.inside.mask c.args.point c.requires ∙ ap (λ s. with_point s c.args.point) c.self.view_is
