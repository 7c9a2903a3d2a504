-- Rows of entries: entries that follow one another, in all of which the player to move has the same
-- stones.
use Rattle.std.specs.Prelude.{◌≡◌, ℕ, ◌+◌, ◌-◌, ◌^◌, ◌<◌, ◌≤◌, nat_eq, true, List, length, slice_index, if◌then◌else◌}
use Rattle.morris_board.specs.Boards.{Shape}
use Rattle.morris_board.specs.Sets.{count_of}
use Rattle.morris_board.specs.Positions.{Sides, IsPosition}
use Rattle.morris_index.specs.Binomials.{choose}
use Rattle.morris_index.specs.Numbering.{IsRanked}
use Rattle.morris_index.specs.Pairs.{Counts, IsPair, is_of}
use Rattle.morris_index.specs.Classes.{representative_of}
use Rattle.morris_index.specs.ClassPairs.{class_half_size, class_index_of, canonical_form}
use Rattle.morris_index.specs.ClassMoves.{class_half_start, class_start_of}
use Rattle.morris_index.specs.Standings.{are_of}

-- some entries of a pair: the first of them, the stones of the player to move in each of them, and
-- how many they are
pub record InRow : Type 0 where
  pub pair : Counts
  pub first : ℕ
  pub own : ℕ
  pub len : ℕ

abbrev pub in_row : Counts → ℕ → ℕ → ℕ → InRow
in_row c first own len = record { pair = c; first = first; own = own; len = len }

-- s is the position of the entry at a place of the row, counted from 0
pub record IsInRow (board : Shape) (n : ℕ) (row : InRow) (place : ℕ) (s : Sides) : Type 0 where
  pub lawful : IsPosition board s
  pub counts : is_of row.pair s ≡ true
  pub own : s.own ≡ row.own
  pub entry : class_index_of board n row.pair s ≡ row.first + place

-- s is the position of the entry at a place, and the canonical form of all positions that have it
pub record StandsIn (board : Shape) (n : ℕ) (row : InRow) (place : ℕ) (s : Sides) : Type 0 where
  pub inside : IsInRow board n row place s
  pub canonical_form : (t : Sides) → IsPosition board t → is_of row.pair t ≡ true → class_index_of board n row.pair t ≡ row.first + place → s ≡ canonical_form board t

-- how many stones the opponent has where the player to move has the stones `own`
abbrev pub opponent_count : Counts → ℕ → ℕ
opponent_count c own = if nat_eq (count_of own) c.greater then c.lesser else c.greater

-- The entry past the last one in which the player to move has the stones of the row, where these
-- are a representative: there are as many as sets of the opponent's stones on the points left free.
abbrev pub row_end : Shape → ℕ → InRow → ℕ
row_end board n row =
    class_start_of board n row.pair row.own (opponent_count row.pair row.own) + choose (n - count_of row.own) (opponent_count row.pair row.own)

-- The entries from `index` on in which the player to move has the stones `own`, among those with as
-- many stones and `other` of the opponent: the sets of the opponent's stones, as the numbers of
-- their points among those that are left free.
pub record IsHalfRow (board : Shape) (n own other index : ℕ) (numbers : List ℕ) : Type 0 where
  pub least : representative_of board own ≡ own
  pub within : own < 2 ^ n
  pub some : 1 ≤ length numbers
  pub start : class_half_start board n own other ≤ index
  pub whole : index + length numbers ≡ class_half_start board n own other + choose (n - count_of own) other
  pub each : (place : ℕ) → place < length numbers
      → IsRanked (n - count_of own) 0 other ((index - class_half_start board n own other) + place) (slice_index numbers place)

-- the same among all entries of the pair
pub record IsEntryRow (board : Shape) (n : ℕ) (row : InRow) (numbers : List ℕ) : Type 0 where
  pub pair : IsPair n row.pair
  pub counts : are_of row.pair (count_of row.own) (opponent_count row.pair row.own) ≡ true
  pub len : length numbers ≡ row.len
  pub first : (index : ℕ) × (index + (if nat_eq (count_of row.own) row.pair.greater then 0 else class_half_size board n row.pair.greater row.pair.lesser) ≡ row.first)
      × IsHalfRow board n row.own (opponent_count row.pair row.own) index numbers
