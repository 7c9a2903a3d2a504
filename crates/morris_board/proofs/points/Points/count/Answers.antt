use Rattle.std.proofs.Common.{◌∙◌, ap, sym}
use Rattle.morris_board.specs.Sets.{count_of}
use Rattle.morris_board.proofs.PointsLaws.{count_of-ones}
use Rattle.morris_board.proofs.points.Points.count.Goals as goal

pub returns-clause-value : goal.returns-clause-value
returns-clause-value c = sym (count_of-ones c.self.inside.mask c.self.invariant) ∙ ap count_of c.self.view_is
