use Rattle.std.proofs.Common.{◌||◌, ◌∙◌, ap₂}
use Rattle.morris_board.specs.Sets.{has}
use Rattle.morris_board.proofs.PointsLaws.{has-or}
use Rattle.morris_board.proofs.points.Points.union.Goals as goal

pub returns : goal.returns
returns c = λ p. has-or c.self.inside.mask c.other.inside.mask p ∙ ap₂ (λ s t. has s p || has t p) c.self.view_is c.other.view_is
