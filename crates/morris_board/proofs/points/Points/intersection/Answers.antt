use Rattle.std.proofs.Common.{◌&&◌, ◌∙◌, ap₂}
use Rattle.morris_board.specs.Sets.{has}
use Rattle.morris_board.proofs.PointsLaws.{has-and}
use Rattle.morris_board.proofs.points.Points.intersection.Goals as goal

pub returns : goal.returns
returns c = λ p. has-and c.self.inside.mask c.other.inside.mask p ∙ ap₂ (λ s t. has s p && has t p) c.self.view_is c.other.view_is
