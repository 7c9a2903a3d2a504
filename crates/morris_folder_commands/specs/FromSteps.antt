-- The parts of `verify --from`.
use Rattle.std.specs.Prelude.{◌≡◌, ℕ, ◌+◌, ◌-◌, ◌^◌, ◌<◌, ◌⊎◌, ⊤, List, true, false, slice_get, Option, Some, None, Result, Ok, Err}
use Rattle.morris_board.specs.Boards.{Shape}
use Rattle.morris_index.specs.Pairs.{Counts, all_pairs}
use Rattle.morris_pairs.specs.Tables.{Table}
use Rattle.morris_pairs.specs.declared.file_faults.ReadFault.TheVariants as read
use Rattle.morris_files.specs.Files.{Files, HasFailed}
use Rattle.morris_files.specs.Stored.{AnswersStored, failures_opening}
use Rattle.morris_files.specs.Names.{name_of}
use Rattle.morris_files.specs.declared.stored.StoredFault.{StoredFault}
use Rattle.morris_files.specs.declared.stored.StoredFault.TheVariants as stored
use Rattle.morris_jobs.specs.declared.fault.Fault.{Fault}
use Rattle.morris_folder_commands.specs.From.{fits, stored_fault}

-- the pair at a place of all pairs, where the board has points for it
abbrev pub place_is : Shape → ℕ → Option Counts → Type 0
place_is board place None = (c : Counts) × (slice_get all_pairs place ≡ Some c) × (fits board c ≡ false)
place_is board place (Some c) = (slice_get all_pairs place ≡ Some c) × (fits board c ≡ true)

-- How far the headers of the files were read, by the number of failed calls before and after it:
-- past all 28 places, and no call failed; or to that of a pair of the board whose file wasn't
-- opened, and one call failed, with room for another.
abbrev pub EndsAt : Shape → ℕ → ℕ → ℕ → Type 0
EndsAt board end old new =
    ((end ≡ 28) × (new ≡ old))
    ⊎ ((c : Counts) × place_is board end (Some c) × (new ≡ old + 1) × (new < 2 ^ 64 - 1))

-- How far the files can be opened, as far as is known, by the number of failed calls before and
-- now: past all 28 places, and no call failed; or to that of a pair of the board whose file wasn't
-- opened, and some call failed.
abbrev pub StopsAt : Shape → ℕ → ℕ → ℕ → Type 0
StopsAt board end old new =
    ((end ≡ 28) × (new ≡ old))
    ⊎ ((c : Counts) × place_is board end (Some c) × (old < new))

-- What was read ahead of a file of this name: the answer to reading it. It was opened, and a read
-- that failed was one of a reader.
abbrev pub IsReadAhead : {R : Type 0} → (R → ℕ) → Shape → Option Files → List ℕ → Counts → Result (Option Table) StoredFault → Type 0
IsReadAhead reading board files name c answer =
    AnswersStored board files name c answer × (failures_opening answer ≡ 0)
    × (answer ≡ Err (stored.Refused read.Read) → HasFailed reading)

-- what is known of the file of the pair at a place before its turn: nothing, or what was read ahead
abbrev pub IsAhead : {R : Type 0} → (R → ℕ) → Shape → Option Files → List ℕ → ℕ → Option (Result (Option Table) StoredFault) → Type 0
IsAhead reading board files name place None = ⊤
IsAhead reading board files name place (Some answer) =
    (c : Counts) × place_is board place (Some c) × IsReadAhead reading board files (name_of name c) c answer

-- what the reading of the file of a pair answers, with its fault
abbrev pub AnswersFile : Shape → Option Files → List ℕ → Counts → Result (Option Table) Fault → Type 0
AnswersFile board files name c (Ok found) = AnswersStored board files name c (Ok found)
AnswersFile board files name c (Err f) = (refused : StoredFault) × (f ≡ stored_fault c refused) × AnswersStored board files name c (Err refused)
