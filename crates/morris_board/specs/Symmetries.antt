-- Symmetries of a board: the ways to lay it on itself. Each is a map of its points.
use Rattle.std.specs.Prelude.{◌≡◌, ℕ, ◌+◌, ◌-◌, ◌/◌, ◌%◌, ◌<◌, nat_eq, map, if◌then◌else◌}
use Rattle.std.specs.List.{Contains}
use Rattle.morris_board.specs.Sets.{members, set_of}
use Rattle.morris_board.specs.Boards.{Shape, is_adjacent, mills_of}
use Rattle.morris_board.specs.Positions.{Sides, sides}

-- the image of a set under a map of points: the images of its points
unfoldable pub image_of : (ℕ → ℕ) → ℕ → ℕ
image_of f s = set_of (map f (members s))

-- the image of a position: the images of its two sets
abbrev pub image_sides : (ℕ → ℕ) → Sides → Sides
image_sides f s = sides (image_of f s.own) (image_of f s.other)

-- A symmetry of a board, and its inverse: each takes points to points, and each undoes the other;
-- two points are adjacent exactly where their images are; and the image of a mill is a mill.
pub record IsSymmetry (board : Shape) (f back : ℕ → ℕ) : Type 0 where
  pub within : (p : ℕ) → p < board.points → f p < board.points
  pub back_within : (p : ℕ) → p < board.points → back p < board.points
  pub undone : (p : ℕ) → p < board.points → back (f p) ≡ p
  pub redone : (p : ℕ) → p < board.points → f (back p) ≡ p
  pub adjacent : (p q : ℕ) → p < board.points → q < board.points → is_adjacent board (f p) (f q) ≡ is_adjacent board p q
  pub mills : (m : ℕ) → Contains (mills_of board) m → Contains (mills_of board) (image_of f m)
  pub back_mills : (m : ℕ) → Contains (mills_of board) m → Contains (mills_of board) (image_of back m)

-- The symmetry that undoes symmetry s of a board: s itself where it mirrors, that is where
-- (s / 4) mod 2 is 1; otherwise the one that makes up the turn by s mod 4 quarters to whole turns.
unfoldable pub inverse_of : ℕ → ℕ
inverse_of s = if nat_eq ((s / 4) % 2) 1 then s else (s - s % 4) + (4 - s % 4) % 4

-- Symmetry u of a board is symmetry t and then symmetry s.
pub record IsComposite (board : Shape) (s t u : ℕ) : Type 0 where
  pub within : u < board.symmetries
  pub same : (p : ℕ) → p < board.points → board.image u p ≡ board.image s (board.image t p)

-- The symmetries of a board: each number below their count stands for one, whose inverse is the one
-- that `inverse_of` gives; symmetry 0 leaves each point where it is; and two of them, one after the
-- other, are one of them.
pub record HasSymmetries (board : Shape) : Type 0 where
  pub symmetry : (s : ℕ) → s < board.symmetries → IsSymmetry board (board.image s) (board.image (inverse_of s))
  pub inverse_within : (s : ℕ) → s < board.symmetries → inverse_of s < board.symmetries
  pub inverse_twice : (s : ℕ) → s < board.symmetries → inverse_of (inverse_of s) ≡ s
  pub some : 0 < board.symmetries
  pub identity : (p : ℕ) → p < board.points → board.image 0 p ≡ p
  pub closed : (s t : ℕ) → s < board.symmetries → t < board.symmetries → (u : ℕ) × IsComposite board s t u
