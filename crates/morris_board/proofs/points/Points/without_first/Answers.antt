use Rattle.std.proofs.Common.{◌∙◌, ap, drop}
use Rattle.morris_board.specs.Sets.{members}
use Rattle.morris_board.proofs.PointsLaws.{rest_is}
use Rattle.morris_board.proofs.points.Points.without_first.Goals as goal

pub returns : goal.returns
returns c = rest_is c.self.inside.mask c.self.invariant ∙ ap (λ s. drop 1 (members s)) c.self.view_is
