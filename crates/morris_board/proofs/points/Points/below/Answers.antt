use Rattle.morris_board.proofs.PointsLaws.{has-below_mask}
use Rattle.morris_board.proofs.points.Points.below.Goals as goal

pub returns : goal.returns
returns c = λ p. has-below_mask c.args.count p c.requires
