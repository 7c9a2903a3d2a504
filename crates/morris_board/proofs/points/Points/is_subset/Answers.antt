use Rattle.std.proofs.Common.{◌∙◌, ap₂}
use Rattle.morris_board.specs.Sets.{is_subset}
use Rattle.morris_board.proofs.PointsLaws.{is_subset-and}
use Rattle.morris_board.proofs.points.Points.is_subset.Goals as goal

pub returns : goal.returns
returns c =
    is_subset-and c.self.inside.mask c.other.inside.mask c.self.invariant ∙ ap₂ is_subset c.self.view_is c.other.view_is
