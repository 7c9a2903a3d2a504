use Rattle.std.proofs.Common.{◌∙◌, ap}
use Rattle.morris_board.specs.Sets.{has}
use Rattle.morris_board.proofs.PointsLaws.{has-shr}
use Rattle.morris_board.proofs.points.Points.has.Goals as goal

pub returns : goal.returns
returns c = has-shr c.self.inside.mask c.args.point ∙ ap (λ s. has s c.args.point) c.self.view_is
