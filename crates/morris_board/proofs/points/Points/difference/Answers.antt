use Rattle.std.proofs.Common.{◌&&◌, not, ◌∙◌, ap₂}
use Rattle.morris_board.specs.Sets.{has}
use Rattle.morris_board.proofs.PointsLaws.{has-difference}
use Rattle.morris_board.proofs.points.Points.difference.Goals as goal

pub returns : goal.returns
returns c = λ p. has-difference c.self.inside.mask c.other.inside.mask p ∙ ap₂ (λ s t. has s p && not (has t p)) c.self.view_is c.other.view_is
