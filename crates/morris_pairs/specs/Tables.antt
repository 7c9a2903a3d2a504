-- Tables of codes, pair by pair.
use Rattle.std.specs.Prelude.{◌≡◌, ℕ, ◌+◌, ◌<◌, ◌≤◌, max, List, [], ◌∷◌, length, map, slice_index, true}
use Rattle.std.specs.List.{range_with_len}
use Rattle.morris_board.specs.Boards.{Shape}
use Rattle.morris_board.specs.Positions.{Sides, IsPosition}
use Rattle.morris_index.specs.Pairs.{Counts, IsPair, is_of}
use Rattle.morris_wave.specs.Nets.{times}
use Rattle.morris_pairs.specs.declared.layout.Layout.{Layout}
use Rattle.morris_pairs.specs.Entries.{entry_count, entry_index}
use Rattle.morris_pairs.specs.Codes.{IsCodeOf}

-- the codes of a pair's entries in a layout, in the order of their indices
pub record Table : Type 0 where
  pub layout : Layout
  pub pair : Counts
  pub codes : List ℕ

abbrev pub table : Layout → Counts → List ℕ → Table
table layout pair codes = record { layout = layout; pair = pair; codes = codes }

-- An exact table has one code for each entry of its pair in its layout, and the code at the entry
-- of a position of the pair says the position's value in the game.
pub record IsTable (board : Shape) (t : Table) : Type 0 where
  pub lawful : IsPair board.points t.pair
  pub counted : length t.codes ≡ entry_count board board.points t.layout t.pair
  pub small : (i : ℕ) → i < length t.codes → slice_index t.codes i ≤ 65535
  pub exact : (s : Sides) → IsPosition board s → is_of t.pair s ≡ true
      → IsCodeOf board s (slice_index t.codes (entry_index board board.points t.layout t.pair s))

-- the greatest of a list of codes, 0 where there is none
abbrev pub greatest_code : List ℕ → ℕ
greatest_code [] = 0
greatest_code (code ∷ codes) = max code (greatest_code codes)

-- how many entries have each code, from 0 up to the greatest code there
abbrev pub tallies_of : List ℕ → List ℕ
tallies_of codes = map (λ code. times code codes) (range_with_len 0 (greatest_code codes + 1))
