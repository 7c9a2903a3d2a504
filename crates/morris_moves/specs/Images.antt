-- Images of positions, and positions of one value.
use Rattle.std.specs.Prelude.{◌≡◌, ℕ}
use Rattle.morris_board.specs.Boards.{Shape}
use Rattle.morris_board.specs.Positions.{Sides}
use Rattle.morris_board.specs.Symmetries.{image_sides, IsSymmetry}
use Rattle.morris_moves.specs.Values.{is_lost, is_won}

-- t is an image of the position s: a symmetry of the board takes s to t
pub record IsImage (board : Shape) (s t : Sides) : Type 0 where
  pub map : ℕ → ℕ
  pub back : ℕ → ℕ
  pub symmetry : IsSymmetry board map back
  pub image : image_sides map s ≡ t

-- Two positions have one value: within each number of plies either both are lost or neither is, and
-- either both are won or neither is.
pub record HaveOneValue (board : Shape) (s t : Sides) : Type 0 where
  pub lost : (n : ℕ) → is_lost n board s ≡ is_lost n board t
  pub won : (n : ℕ) → is_won n board s ≡ is_won n board t
