-- A shelf: the exact tables of some pairs, with those of all pairs below each of them.
use Rattle.std.specs.Prelude.{◌≡◌, ℕ, ◌+◌, ◌-◌, ◌*◌, true, Bool, ◌&&◌, nat_le, List, length, slice_index_or, Option, None, is_some, is_none, IfSome, if◌then◌else◌}
use Rattle.std.specs.List.{Contains, find}
use Rattle.morris_board.specs.Boards.{Shape}
use Rattle.morris_board.specs.Positions.{is_between}
use Rattle.morris_index.specs.Pairs.{Counts, all_needs, below_of}
use Rattle.morris_pairs.specs.Tables.{Table, IsTable}

-- a place for each two numbers of stones, with the table of that pair where there is one
abbrev pub Stored : Type 0
Stored = List (Option Table)

-- a pair's numbers are 3 to 9 each: the places go by the greater one and then by the lesser one
abbrev pub has_place : Counts → Bool
has_place c = is_between 3 c.greater 9 && is_between 3 c.lesser 9

abbrev pub place_of : Counts → ℕ
place_of c = (c.greater - 3) * 7 + (c.lesser - 3)

-- the table of a pair, where the shelf has one
unfoldable pub table_on : Stored → Counts → Option Table
table_on shelf c = if has_place c then slice_index_or shelf (place_of c) None else None

-- the shelf has the tables of all pairs below a pair, the pair itself among them
abbrev pub HasAllBelow : Stored → Counts → Type 0
HasAllBelow shelf c = (d : Counts) → Contains (below_of c) d → is_some (table_on shelf d) ≡ true

-- each table is an exact one of the pair at whose place it stands
pub record AreTables (board : Shape) (stored : Stored) : Type 0 where
  pub places : length stored ≡ 49
  pub tables : (c : Counts) → IfSome (table_on stored c) (λ t. (t.pair ≡ c) × IsTable board t)

-- what there is of a pair's table once those of fewer stones than this together are let go
abbrev pub retained_from : ℕ → Stored → Counts → Option Table
retained_from stones stored c = if nat_le stones (c.greater + c.lesser) then table_on stored c else None

-- so is each on a shelf, and all pairs below a pair on the shelf are on it as well
pub record IsShelf (board : Shape) (shelf : Stored) : Type 0 where
  pub exact : AreTables board shelf
  pub closed : (c : Counts) → is_some (table_on shelf c) ≡ true → HasAllBelow shelf c

-- the first of the pairs that a pair needs whose table isn't on the shelf
abbrev pub first_missing : Stored → Counts → Option Counts
first_missing shelf c = find (λ need. is_none (table_on shelf need)) (all_needs c)
