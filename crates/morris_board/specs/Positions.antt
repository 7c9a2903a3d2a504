-- Positions and position strings.
use Rattle.std.specs.Prelude.{◌≡◌, ℕ, ◌<◌, ◌^◌, Bool, true, false, not, ◌&&◌, ◌||◌, nat_eq, nat_le, List, map, length, slice_index, position, Option, Some, None, Result, Ok, Err, if◌then◌else◌}
use Rattle.std.specs.List.{range_with_len}
use Rattle.morris_board.specs.Sets.{has, count_of, set_where}
use Rattle.morris_board.specs.Boards.{Shape}
use Rattle.morris_board.specs.declared.faults.Stones.{Stones}
use Rattle.morris_board.specs.declared.faults.TextFault.{TextFault}
use Rattle.morris_board.specs.declared.faults.TextFault.TheVariants as fault

-- the stones on a board: the set of the player to move, and the opponent's
pub record Sides : Type 0 where
  pub own : ℕ
  pub other : ℕ

abbrev pub sides : ℕ → ℕ → Sides
sides own other = record { own = own; other = other }

abbrev pub is_between : ℕ → ℕ → ℕ → Bool
is_between low n high = nat_le low n && nat_le n high

-- whether the player to move has 2 to 9 stones and the opponent 3 to 9
abbrev pub is_sized : Sides → Bool
is_sized s = is_between 2 (count_of s.own) 9 && is_between 3 (count_of s.other) 9

-- two sets of points of the board that have none in common
pub record IsApart (board : Shape) (s : Sides) : Type 0 where
  pub own_within : s.own < 2 ^ board.points
  pub other_within : s.other < 2 ^ board.points
  pub apart : (p : ℕ) → has s.own p ≡ true → has s.other p ≡ false

-- a position: two such sets, with as many stones as the two players may have
pub record IsPosition (board : Shape) (s : Sides) : Type 0 where
  pub stones : IsApart board s
  pub sized : is_sized s ≡ true

-- what two sets of stones make: a position, or a refusal for their numbers
abbrev pub check_sides : Sides → Result Sides Stones
check_sides s = if is_sized s then Ok s else Err (record {})

-- A position string has a character for each point, in order: `X` (88) for a stone of the player to
-- move, `O` (79) for one of the opponent, `.` (46) for a vacant point.
unfoldable pub letter : Sides → ℕ → ℕ
letter s p = if has s.own p then 88 else (if has s.other p then 79 else 46)

unfoldable pub text_of : Shape → Sides → List ℕ
text_of board s = map (letter s) (range_with_len 0 board.points)

abbrev pub is_letter : ℕ → Bool
is_letter c = nat_eq c 88 || (nat_eq c 79 || nat_eq c 46)

-- the points at which a string has the character c
unfoldable pub places_of : ℕ → List ℕ → ℕ
places_of c text = set_where (length text) (λ p. nat_eq (slice_index text p) c)

-- the stones that a string shows
unfoldable pub sides_of_text : List ℕ → Sides
sides_of_text text = record { own = places_of 88 text; other = places_of 79 text }

-- What reading a string gives: a refusal for a length that isn't one character per point, then for
-- the first character that is none of the three, then for the numbers of stones; and otherwise the
-- stones that it shows.
abbrev pub read_letters : Option ℕ → Sides → Result Sides TextFault
read_letters (Some place) s = Err (fault.Character place)
read_letters None s = if is_sized s then Ok s else Err fault.Stones

abbrev pub read_of : Shape → List ℕ → Result Sides TextFault
read_of board text = if nat_eq (length text) board.points then read_letters (position (λ c. not (is_letter c)) text) (sides_of_text text) else Err fault.Length
