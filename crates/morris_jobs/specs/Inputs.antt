-- What is read of files of tables, and when their tables are taken in.
use Rattle.std.specs.Prelude.{◌≡◌, ◌≢◌, ℕ, ◌-◌, ◌^◌, ◌<◌, List, Option, Some, None}
use Rattle.morris_board.specs.Boards.{Shape}
use Rattle.morris_index.specs.Pairs.{Counts, counts}
use Rattle.morris_pairs.specs.Agreement.{IsFirstToDiffer}
use Rattle.morris_pairs.specs.Shelves.{Stored, first_missing, table_on}
use Rattle.morris_pairs.specs.Tables.{IsTable, Table}
use Rattle.morris_jobs.specs.declared.fault.Fault.{Fault}
use Rattle.morris_jobs.specs.declared.fault.Fault.TheVariants as fault

-- an input before and after: the bytes that are still to be read, where they are known, and how
-- many calls have failed
pub record Input : Type 0 where
  pub bytes : Option (List ℕ)
  pub failures : ℕ

abbrev pub input_of : Option (List ℕ) → ℕ → Input
input_of bytes failures = record { bytes = bytes; failures = failures }

-- there is room to count one more call that fails of what is read, and one of the output
abbrev pub MayFail : ℕ → ℕ → Type 0
MayFail read written = (read < 2 ^ 64 - 1) × (written < 2 ^ 64 - 1)

-- The shelf takes a table in: those that its pair needs are there, each of its codes is the game's,
-- and it stands in the place of what was there for its pair.
pub record Joins (board : Shape) (old new : Stored) (t : Table) : Type 0 where
  pub ready : first_missing old t.pair ≡ None
  pub exact : IsTable board t
  pub this : table_on new t.pair ≡ Some t
  pub others : (c : Counts) → c ≢ t.pair → table_on new c ≡ table_on old c

-- Why it doesn't: the first of the pairs that its pair needs whose table isn't there; otherwise the
-- first entry that isn't what the rules give from those of its results.
abbrev pub IsUnfit : Shape → Stored → Table → Fault → Type 0
IsUnfit board shelf t (fault.Needs greater lesser) = first_missing shelf t.pair ≡ Some (counts greater lesser)
IsUnfit board shelf t (fault.Differs index) = (first_missing shelf t.pair ≡ None) × IsFirstToDiffer board t index
IsUnfit board shelf t _ = ⊥
