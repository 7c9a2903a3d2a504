-- The entries of the positions after a position, where the positions of a pair are numbered by
-- classes.
use Rattle.std.specs.Prelude.{◌≡◌, ℕ, ◌+◌, ◌-◌, ◌*◌, ◌^◌, ◌≤◌, nat_eq, true, if◌then◌else◌}
use Rattle.morris_board.specs.Boards.{Shape}
use Rattle.morris_board.specs.Sets.{count_of}
use Rattle.morris_board.specs.Positions.{Sides, IsPosition}
use Rattle.morris_board.specs.Symmetries.{image_sides}
use Rattle.morris_index.specs.Binomials.{choose}
use Rattle.morris_index.specs.Classes.{symmetry_of, class_of}
use Rattle.morris_index.specs.ClassPairs.{class_half_size}
use Rattle.morris_index.specs.Pairs.{Counts, IsPair, is_of}
use Rattle.morris_index.specs.Moves.{InPair}

-- the number of the first entry of a class, the one of the set `own` of the player to move, among
-- those with as many stones and `other` of the opponent
abbrev pub class_half_start : Shape → ℕ → ℕ → ℕ → ℕ
class_half_start board n own other = class_of board own * choose (n - count_of own) other

-- the number of that entry among all of the pair
abbrev pub class_start_of : Shape → ℕ → Counts → ℕ → ℕ → ℕ
class_start_of board n c own other =
    (if nat_eq (count_of own) c.greater then 0 else class_half_size board n c.greater c.lesser) + class_half_start board n own other

-- What is kept of a position, on n points, for the entries of those after it. In each of these the
-- opponent is to move, so all of them are led by the symmetry of the opponent's set.
pub record IsCanonicalOn (board : Shape) (n : ℕ) (q : InPair) (symmetry : ℕ) (image : Sides) (first : ℕ) : Type 0 where
  pub counts : is_of q.pair q.position ≡ true
  pub lawful : IsPosition board q.position
  pub pair : IsPair n q.pair
  pub leads : symmetry ≡ symmetry_of board q.position.other
  pub canonical_form : image ≡ image_sides (board.image symmetry) q.position
  pub start : first ≡ class_start_of board n q.pair q.position.other (count_of q.position.own)
  pub few : first ≤ 2 ^ 54
