-- The tables of the boards are their adjacency and their mills, by computation over the whole of
-- each table; and what a whole table says of each of its entries.
use Rattle.std.proofs.Common.{◌≡◌, ℕ, ◌<◌, List, [], ◌∷◌, length, map, get_or, sym, ◌∙◌, ap, refl, zero-add, arith}
use Rattle.std.specs.List.{range_with_len}
use Rattle.std.proofs.lemmas.List.{length-map, get_or-map}
use Rattle.std.proofs.lemmas.List.FromFn.{length-map-range_with_len, get_or-map-range_with_len}
use Rattle.morris_board.specs.Sets.{has, set_where, set_of, with_point}
use Rattle.morris_board.specs.Boards.{Shape, adjacent, is_adjacent, mills_of, mills_through, grid, nine}
use Rattle.morris_board.specs.declared.grid.TheConstants as grid_table
use Rattle.morris_board.specs.declared.nine.TheConstants as nine_table

-- ---- from a whole table to each of its entries

module _ {X : Type 0} (entry_of : ℕ → X) (n : ℕ) (table : List X) (whole : table ≡ map entry_of (range_with_len 0 n)) where
  pub table_length : length table ≡ n
  table_length = ap length whole ∙ length-map-range_with_len entry_of 0 n

  pub table_entry : (p : ℕ) (d : X) → p < n → get_or table p d ≡ entry_of p
  table_entry p d here = ap (λ entries. get_or entries p d) whole ∙ get_or-map-range_with_len entry_of 0 n p p d here (zero-add p)

-- the two numbers of a row
abbrev pub two : List ℕ → List ℕ
two row = get_or row 0 0 ∷ get_or row 1 0 ∷ []

module _ (b : Shape) (table : List (List ℕ)) (whole : map two table ≡ map (mills_through b) (range_with_len 0 b.points)) (p : ℕ) (here : p < b.points) where
  pub row_in_table : p < length table
  row_in_table = let same = table_length _ _ _ whole in omega (arith, length-map table two, same, here)

  pub row_entry : mills_through b p ≡ two (get_or table p [])
  row_entry = sym (table_entry _ _ _ whole p [] here) ∙ get_or-map two table p [] [] row_in_table

-- ---- the tables of the two boards

pub neighbours-grid : grid_table.NEIGHBOURS ≡ map (adjacent grid) (range_with_len 0 grid.points)
unfolding grid adjacent is_adjacent set_where with_point
neighbours-grid = refl

pub mills-grid : grid_table.MILLS ≡ mills_of grid
unfolding grid mills_of set_of with_point
mills-grid = refl

pub mills_through-grid : map two grid_table.MILLS_THROUGH ≡ map (mills_through grid) (range_with_len 0 grid.points)
unfolding grid mills_through mills_of set_of with_point has
mills_through-grid = refl

pub neighbours-nine : nine_table.NEIGHBOURS ≡ map (adjacent nine) (range_with_len 0 nine.points)
unfolding nine adjacent is_adjacent set_where with_point
neighbours-nine = refl

pub mills-nine : nine_table.MILLS ≡ mills_of nine
unfolding nine mills_of set_of with_point
mills-nine = refl

pub mills_through-nine : map two nine_table.MILLS_THROUGH ≡ map (mills_through nine) (range_with_len 0 nine.points)
unfolding nine mills_through mills_of set_of with_point has
mills_through-nine = refl
