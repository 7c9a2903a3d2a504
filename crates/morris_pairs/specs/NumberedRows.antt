-- The moves of one player's stones, by the numbers of the points that they leave free.
use Rattle.std.specs.Prelude.{◌≡◌, ℕ, ◌+◌, ◌*◌, ◌%◌, ◌<◌, Bool, false, if◌then◌else◌}
use Rattle.morris_board.specs.Sets.{has}
use Rattle.morris_board.specs.Boards.{Shape}
use Rattle.morris_board.specs.Positions.{Sides, IsPosition}
use Rattle.morris_index.specs.Numbering.{number_outside}
use Rattle.morris_index.specs.Parts.{squeeze_below}
use Rattle.morris_pairs.specs.declared.numbered_row.NumberedRow.{NumberedRow}
use Rattle.morris_pairs.specs.declared.numbered_row.SmallCounts.{SmallCounts}
use Rattle.morris_pairs.specs.Rows.{arrivals, IsRow}

-- a binary digit as a number
abbrev pub digit : Bool → ℕ
digit b = if b then 1 else 0

-- the count of the number v, from its four binary digits
unfoldable pub count_at : SmallCounts → ℕ → ℕ
count_at counts v = digit (has counts.ones v) + 2 * digit (has counts.twos v) + 4 * digit (has counts.fours v) + 8 * digit (has counts.eights v)

-- What a numbered row says of its own stones is right: by points, and by the numbers of the points
-- that they leave free. It has the arrivals at a point modulo 16: a player has at most nine stones,
-- so that is all of them.
pub record IsNumbered (board : Shape) (n : ℕ) (cache : NumberedRow) : Type 0 where
  pub row : IsRow board n cache.row
  pub each : (v : ℕ) → v < n → has cache.row.own v ≡ false
      → count_at cache.arrivals (number_outside cache.row.own v) ≡ arrivals board cache.row.own v % 16
  pub closing : (v : ℕ) → v < n → has cache.row.own v ≡ false
      → has cache.closing (number_outside cache.row.own v) ≡ has cache.row.closing v

-- s is a position in which the player to move has these stones, and the opponent those with the
-- numbers in the list.
pub record AreNumbers (board : Shape) (n stones list : ℕ) (s : Sides) : Type 0 where
  pub lawful : IsPosition board s
  pub own : s.own ≡ stones
  pub numbers : list ≡ squeeze_below stones s.other n
