-- The orbit of an entry: the positions of a pair that have it. They are found from their canonical
-- form: each symmetry takes one of them there.
use Rattle.std.specs.Prelude.{◌≡◌, ◌≢◌, ◌↔◌, ℕ, ◌-◌, Bool, true, nat_eq, List, length, map, filter}
use Rattle.std.specs.List.{AllPairs, Contains, range_with_len}
use Rattle.morris_board.specs.Boards.{Shape}
use Rattle.morris_board.specs.Positions.{Sides, IsPosition}
use Rattle.morris_board.specs.Symmetries.{image_sides, inverse_of}
use Rattle.morris_index.specs.Classes.{symmetry_of}
use Rattle.morris_index.specs.ClassPairs.{class_index_of}
use Rattle.morris_index.specs.Pairs.{Counts, is_of}

-- s is a position of the pair, and this is its entry
pub record HasEntry (board : Shape) (n : ℕ) (c : Counts) (entry : ℕ) (s : Sides) : Type 0 where
  pub lawful : IsPosition board s
  pub counts : is_of c s ≡ true
  pub entry_is : class_index_of board n c s ≡ entry

-- The orbit size of an entry by classes: there is a list of just the positions that have it, each
-- of them once, and it is so long.
pub record HasPositions (board : Shape) (n : ℕ) (c : Counts) (entry count : ℕ) : Type 0 where
  pub positions : List Sides
  pub listed : (s : Sides) → Contains positions s ↔ HasEntry board n c entry s
  pub once : AllPairs (λ s t. s ≢ t) positions
  pub many : length positions ≡ count

-- the position that symmetry s takes to p
abbrev pub preimage : Shape → Sides → ℕ → Sides
preimage board p s = image_sides (board.image (inverse_of s)) p

-- Whether s is the canonicalizing symmetry of that position. Of the symmetries that take a position
-- to p just one is.
abbrev pub is_canonicalized_by : Shape → Sides → ℕ → Bool
is_canonicalized_by board p s = nat_eq (symmetry_of board (preimage board p s).own) s

-- the positions with the canonical form p whose canonicalizing symmetry is one from `first` on
unfoldable pub orbit_from : Shape → Sides → ℕ → List Sides
orbit_from board p first = map (preimage board p) (filter (is_canonicalized_by board p) (range_with_len first (board.symmetries - first)))
