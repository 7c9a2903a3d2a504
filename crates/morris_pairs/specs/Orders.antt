-- How the positions of a pair are numbered, as entries of a table and as nodes of a graph. Several
-- positions may have one number, which is one position's own.
use Rattle.std.specs.Prelude.{ℕ, ◌+◌, Bool, true, nat_eq, nat_le, if◌then◌else◌}
use Rattle.morris_board.specs.Boards.{Shape}
use Rattle.morris_board.specs.Sets.{count_of}
use Rattle.morris_board.specs.Positions.{Sides}
use Rattle.morris_index.specs.Pairs.{Counts, size_of, index_of}
use Rattle.morris_index.specs.Classes.{representative_of}
use Rattle.morris_index.specs.ClassPairs.{class_half_size, class_half_index, class_size_of, class_index_of}
use Rattle.morris_index.specs.ByOpponent.{swap_sides}
use Rattle.morris_pairs.specs.declared.layout.Layout.{Layout}
use Rattle.morris_pairs.specs.declared.layout.Layout.TheVariants as layout

-- Full: each position has a number of its own. Classes: a position has that of its canonical form
-- by the set of the player to move. Rows: it has that of its canonical form by the set of the side
-- with more stones, whoever is to move.
pub data Order : Type 0 where
  Full : Order
  Classes : Order
  Rows : Order

-- the order of a table's entries
abbrev pub order_of : Layout → Order
order_of layout.Full = Full
order_of layout.Classes = Classes

-- ---- rows

-- whether the player to move has at least as many stones as the opponent
abbrev pub is_first_half : Sides → Bool
is_first_half s = nat_le (count_of s.other) (count_of s.own)

-- the position, with its sides swapped where the opponent has more stones: then the other player is
-- to move
abbrev pub to_first_half : Sides → Sides
to_first_half s = if is_first_half s then s else swap_sides s

-- How many numbers there are in rows, on n points: those of the classes of the greater number, and
-- where the numbers of stones differ as many once more, for the positions whose sides are swapped.
unfoldable pub row_size_of : Shape → ℕ → Counts → ℕ
row_size_of board n c =
    class_half_size board n c.greater c.lesser + (if nat_eq c.greater c.lesser then 0 else class_half_size board n c.greater c.lesser)

-- The number of a position in rows: that of the class of the position in which the player to move
-- has more stones; those of the positions whose sides are swapped come after the others.
unfoldable pub row_index_of : Shape → ℕ → Counts → Sides → ℕ
row_index_of board n c s = (if is_first_half s then 0 else class_half_size board n c.greater c.lesser) + class_half_index board n (to_first_half s)

-- ---- all orders

-- how many numbers there are, on n points
abbrev pub count_in : Shape → ℕ → Order → Counts → ℕ
count_in board n Full c = size_of n c
count_in board n Classes c = class_size_of board n c
count_in board n Rows c = row_size_of board n c

-- the number of a position
abbrev pub index_in : Shape → ℕ → Order → Counts → Sides → ℕ
index_in board n Full c s = index_of n c s
index_in board n Classes c s = class_index_of board n c s
index_in board n Rows c s = row_index_of board n c s

-- whether it is the position's own. Full: always. Classes and Rows: where the set by which it
-- becomes canonical is in canonical form.
abbrev pub own_in : Shape → Order → Sides → Bool
own_in board Full s = true
own_in board Classes s = nat_eq (representative_of board s.own) s.own
own_in board Rows s = nat_eq (representative_of board (to_first_half s).own) (to_first_half s).own
