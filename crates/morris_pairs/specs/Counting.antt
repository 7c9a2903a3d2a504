-- How many positions of a pair say what, counted from the codes of a table's entries.
use Rattle.std.specs.Prelude.{◌≡◌, ◌≢◌, ◌↔◌, ℕ, ◌<◌, ◌≤◌, Bool, true, false, List, length, slice_index, Option}
use Rattle.std.specs.List.{AllPairs, Contains}
use Rattle.morris_board.specs.Boards.{Shape}
use Rattle.morris_board.specs.Sets.{count_of}
use Rattle.morris_board.specs.Positions.{Sides, IsPosition}
use Rattle.morris_index.specs.ClassPairs.{class_half_size}
use Rattle.morris_index.specs.Numbering.{half_size}
use Rattle.morris_index.specs.Pairs.{Counts, is_of}
use Rattle.morris_pairs.specs.declared.layout.Layout.{Layout}
use Rattle.morris_pairs.specs.declared.layout.Layout.TheVariants.{Full, Classes}
use Rattle.morris_pairs.specs.Codes.{IsCodeOf}
use Rattle.morris_pairs.specs.Entries.{entry_index, has_own_entry}
use Rattle.morris_pairs.specs.Tables.{Table}

-- So many positions are asked for: there is a list of just these, each of them once, and it is so
-- long.
pub record AreSoMany (asked : Sides → Type 0) (count : ℕ) : Type 0 where
  pub positions : List Sides
  pub listed : (s : Sides) → Contains positions s ↔ asked s
  pub once : AllPairs (λ s t. s ≢ t) positions
  pub many : length positions ≡ count

-- at each code stands how many positions say it; none says one that is past the end
abbrev pub AreTallies : (Sides → ℕ → Type 0) → List ℕ → Type 0
AreTallies says tallies = (code : ℕ) → AreSoMany (λ s. says s code) (slice_index tallies code)

-- a position of the pair has this code, which says its value in the game and the exact depth
pub record HasCode (board : Shape) (c : Counts) (s : Sides) (code : ℕ) : Type 0 where
  pub lawful : IsPosition board s
  pub of : is_of c s ≡ true
  pub coded : IsCodeOf board s code

-- a table states this code for a position of its pair: it stands at the position's entry
pub record HasStated (board : Shape) (t : Table) (s : Sides) (code : ℕ) : Type 0 where
  pub lawful : IsPosition board s
  pub of : is_of t.pair s ≡ true
  pub stated : slice_index t.codes (entry_index board board.points t.layout t.pair s) ≡ code

-- the same where the player to move has so many stones
abbrev pub with_own : ℕ → (Sides → ℕ → Type 0) → Sides → ℕ → Type 0
with_own own says s code = (count_of s.own ≡ own) × says s code

-- These are how many positions of the pair have each code, where each code says the game's value
-- and exact depth.
abbrev pub HasTallies : Shape → Counts → List ℕ → Type 0
HasTallies board c tallies = AreTallies (HasCode board c) tallies

-- ---- by the entries

-- Whether a position is shown: all are; or, where not all are asked for, those that have an entry
-- of their own.
abbrev pub is_shown : Shape → Layout → Bool → Sides → Bool
is_shown board l true s = true
is_shown board l false s = has_own_entry board l s

-- a position of the pair that is shown and has this entry
pub record IsOfEntry (board : Shape) (l : Layout) (c : Counts) (all : Bool) (entry : ℕ) (s : Sides) : Type 0 where
  pub lawful : IsPosition board s
  pub of : is_of c s ≡ true
  pub shown : is_shown board l all s ≡ true
  pub entry_is : entry_index board board.points l c s ≡ entry

-- a position that is shown, has an entry from `first` on and below `end`, and this code there
pub record IsBetween (board : Shape) (t : Table) (all : Bool) (first end : ℕ) (s : Sides) (code : ℕ) : Type 0 where
  pub stated : HasStated board t s code
  pub shown : is_shown board t.layout all s ≡ true
  pub from : first ≤ entry_index board board.points t.layout t.pair s
  pub below : entry_index board board.points t.layout t.pair s < end

-- the tallies of these
abbrev pub AreTalliesOf : Shape → Table → Bool → ℕ → ℕ → List ℕ → Type 0
AreTalliesOf board t all first end tallies = AreTallies (IsBetween board t all first end) tallies

-- how many entries have the greater number of stones of the player to move; they are the first
abbrev pub first_half_of : Shape → ℕ → Layout → Counts → ℕ
first_half_of board n Full c = half_size n c.greater c.lesser
first_half_of board n Classes c = class_half_size board n c.greater c.lesser

-- the entries of a pair in a layout, their codes where they are known, and whether none of these
-- fails to be read
pub record CodedEntries : Type 0 where
  pub layout : Layout
  pub pair : Counts
  pub stated : Option (List ℕ)
  pub unfailing : Bool

abbrev pub coded_entries : Layout → Counts → Option (List ℕ) → Bool → CodedEntries
coded_entries layout pair stated unfailing = record { layout = layout; pair = pair; stated = stated; unfailing = unfailing }

-- the table of these codes
abbrev pub table_of : CodedEntries → List ℕ → Table
table_of entries codes = record { layout = entries.layout; pair = entries.pair; codes = codes }
