use Rattle.morris_board.proofs.PointsLaws.{count_of-le}
use Rattle.morris_board.specs.Sets.{count_of}
use Rattle.morris_board.proofs.points.Points.iter.Goals as goal

pub returns-clause-few : goal.returns-clause-few
unfolding count_of
returns-clause-few c = count_of-le c.args.self
