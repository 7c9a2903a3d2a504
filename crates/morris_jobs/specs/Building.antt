-- Which tables are built, and what holds when one of them is.
use Rattle.std.specs.Prelude.{◌≡◌, ⊤, ℕ, ◌+◌, ◌<◌, ◌≤◌, Bool, Some, None, if◌then◌else◌}
use Rattle.morris_board.specs.Boards.{Shape}
use Rattle.morris_index.specs.Pairs.{Counts}
use Rattle.morris_pairs.specs.declared.layout.Layout.{Layout}
use Rattle.morris_pairs.specs.declared.layout.Layout.TheVariants.{Full, Classes}
use Rattle.morris_pairs.specs.Known.{IsBeyondCodes}
use Rattle.morris_pairs.specs.Shelves.{Stored, table_on}
use Rattle.morris_pairs.specs.Tables.{IsTable, Table}
use Rattle.morris_jobs.specs.declared.fault.Fault.{Fault}
use Rattle.morris_jobs.specs.declared.fault.Fault.TheVariants as fault

-- the layout of the tables: an entry for each class of positions where that is asked for, and
-- otherwise one for each position
abbrev pub layout_for : Bool → Layout
layout_for classes = if classes then Classes else Full

-- the shelf has a table of this pair in a layout, in which each code is the game's
abbrev pub HasExactAt : Shape → Layout → Stored → Counts → Type 0
HasExactAt board l shelf c = (t : Table) × (table_on shelf c ≡ Some t) × (t.pair ≡ c) × (t.layout ≡ l) × IsTable board t

-- how many stones a pair has
abbrev pub stones : Counts → ℕ
stones c = c.greater + c.lesser

-- what a pair or a later one may need is still there: it needs tables of one stone fewer
abbrev pub ArePruned : Stored → Stored → Counts → Type 0
ArePruned old new c = (d : Counts) → stones c ≤ stones d + 1 → table_on new d ≡ table_on old d

-- At a pair's turn that is so, and no other tables are there.
pub record RetainsNear (old new : Stored) (c : Counts) : Type 0 where
  pub near : ArePruned old new c
  pub far : (d : Counts) → stones d + 1 < stones c → table_on new d ≡ None

-- Why a pair isn't built, where those that it needs are there: want of memory; a block of this
-- number was left incomplete; or codes don't suffice for the depths.
abbrev pub IsUnbuiltAt : Shape → Counts → ℕ → Fault → Type 0
IsUnbuiltAt board pair blocks fault.Memory = ⊤
IsUnbuiltAt board pair blocks (fault.Missing number) = number < blocks
IsUnbuiltAt board pair blocks fault.TooDeep = IsBeyondCodes board pair
IsUnbuiltAt board pair blocks _ = ⊥
