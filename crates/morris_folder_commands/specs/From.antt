-- What `verify --from` makes of the files of a folder, and what it prints.
use Rattle.std.specs.Prelude.{◌≡◌, ◌⊎◌, ℕ, ◌+◌, Bool, true, false, nat_le, List, [], ◌∷◌, filter, length, Option, Some, None, Result, Ok, Err, if◌then◌else◌}
use Rattle.std.specs.Io.KnownBytes.{Keeps}
use Rattle.morris_board.specs.Boards.{Shape}
use Rattle.morris_index.specs.Pairs.{Counts, all_pairs}
use Rattle.morris_pairs.specs.Shelves.{Stored, table_on}
use Rattle.morris_pairs.specs.Tables.{Table}
use Rattle.morris_files.specs.Files.{Files}
use Rattle.morris_files.specs.Files as folder
use Rattle.morris_files.specs.Stored.{AnswersStored}
use Rattle.morris_files.specs.Names.{name_of}
use Rattle.morris_files.specs.declared.stored.StoredFault.{StoredFault}
use Rattle.morris_files.specs.declared.stored.StoredFault.TheVariants as stored
use Rattle.morris_jobs.specs.declared.fault.Fault.{Fault}
use Rattle.morris_jobs.specs.declared.fault.Fault.TheVariants as fault
use Rattle.morris_jobs.specs.Faults.{PrintsLine, in_file, read_fault}
use Rattle.morris_jobs.specs.Answering.{OnBoard}
use Rattle.morris_jobs.specs.Building.{RetainsNear}
use Rattle.morris_jobs.specs.Inputs.{IsUnfit, Joins}
use Rattle.morris_jobs.specs.Verified.{verified_text}

-- whether a board has points for the stones of a pair
abbrev pub fits : Shape → Counts → Bool
fits board c = nat_le (c.greater + c.lesser) board.points

-- all pairs of a board, in order of their sum and then of the larger number
unfoldable pub pairs_of : Shape → List Counts
pairs_of board = filter (fits board) all_pairs

-- the fault that answers a stored file which can't be read: a flaw of the file says of which pair
-- it is
abbrev pub stored_fault : Counts → StoredFault → Fault
stored_fault c stored.Memory = fault.Memory
stored_fault c stored.Unopened = fault.Unopened c.greater c.lesser
stored_fault c (stored.Refused refused) = in_file c (read_fault refused)
stored_fault c stored.OtherPair = fault.OtherPair c.greater c.lesser

-- the line of a table
abbrev pub verified_line : Table → List ℕ
verified_line t = verified_text t.pair (length t.codes)

-- the end, by whether there was a file, or none at all
abbrev pub end_of : Bool → Result (Unit {0}) Fault
end_of found = if found then Ok tt else Err fault.NoFiles

-- What follows from the answer to a file: the fault of one that can't be read, with no line more
-- printed; the next pair, where there is no file; or what becomes of the table.
abbrev pub AfterFile : Counts → Option (List ℕ) → Option (List ℕ) → Result (Unit {0}) Fault → Type 0 → (Table → Type 0) → Result (Option Table) StoredFault → Type 0
AfterFile c old new result next taken (Err refused) = (result ≡ Err (stored_fault c refused)) × Keeps old new
AfterFile c old new result next taken (Ok None) = next
AfterFile c old new result next taken (Ok (Some t)) = taken t

-- why a table doesn't join a set of tables, as the fault of its file
abbrev pub IsUnfitFile : Shape → Stored → Table → Fault → Type 0
IsUnfitFile board tables t f = (refused : Fault) × IsUnfit board tables t refused × (f ≡ in_file t.pair refused)

-- What becomes of a table over a set of tables: it doesn't join them, with no line more printed; or
-- it does, which it can only where each of its codes is the game's, and its line is printed, or its
-- first bytes are. `sent` bytes were printed before.
abbrev pub TakesIn : Shape → Stored → Stored → Table → ℕ → Option (List ℕ) → Option (List ℕ) → Result ℕ Fault → Type 0
TakesIn board tables joined t sent old new result =
    ((f : Fault) × (result ≡ Err f) × IsUnfitFile board tables t f × (old ≡ new))
    ⊎ (Joins board tables joined t × PrintsLine (verified_line t) sent old new result)

-- what follows from that: the fault, with no line more printed; or what comes next
abbrev pub AfterTaking : Option (List ℕ) → Option (List ℕ) → Result (Unit {0}) Fault → (ℕ → Type 0) → Result ℕ Fault → Type 0
AfterTaking old new result next (Err refused) = (result ≡ Err refused) × Keeps old new
AfterTaking old new result next (Ok now) = next now

abbrev pub AfterTable : Shape → Stored → ℕ → Option (List ℕ) → Option (List ℕ) → Result (Unit {0}) Fault → (Stored → ℕ → Option (List ℕ) → Type 0) → Table → Type 0
AfterTable board tables sent old new result next t =
    (joined : Stored) × (out : Option (List ℕ)) × (taken : Result ℕ Fault) × TakesIn board tables joined t sent old out taken
    × AfterTaking out new result (λ now. next joined now out) taken

-- The pairs are gone through in order: at the turn of each, those tables are dropped that no pair
-- from it on needs, whether the folder has its file or not; the file is read where the folder has
-- it, and its table joins the others before the next. `sent` bytes were printed before, and `found`
-- says whether there was a file before.
unfoldable pub Verifies : Shape → Option Files → List ℕ → List Counts → Stored → Bool → ℕ → Option (List ℕ) → Option (List ℕ) → Result (Unit {0}) Fault → Type 0
Verifies board files name [] tables found sent old new result = (result ≡ end_of found) × Keeps old new
Verifies board files name (c ∷ pairs) tables found sent old new result =
    (near : Stored) × RetainsNear tables near c
    × ((answer : Result (Option Table) StoredFault) × AnswersStored board files (name_of name c) c answer
    × AfterFile c old new result (Verifies board files name pairs near found sent old new result)
    (AfterTable board near sent old new result (λ joined more out. Verifies board files name pairs joined true more out new result)) answer)

-- What it answers in a folder that is there: there is no room for a set of tables, with nothing
-- printed; otherwise what comes of all pairs, over an empty set.
abbrev pub AnswersFound : Shape → Option Files → List ℕ → Option (List ℕ) → Option (List ℕ) → Result (Unit {0}) Fault → Type 0
AnswersFound board files name old new result =
    ((result ≡ Err fault.Memory) × Keeps old new)
    ⊎ ((empty : Stored) × ((c : Counts) → table_on empty c ≡ None) × Verifies board files name (pairs_of board) empty false 0 old new result)

-- What it answers on a board: there is no such folder, with nothing printed; otherwise what it
-- answers in the folder, whose files are looked for and not changed.
abbrev pub AnswersFromOn : Shape → Option Files → List ℕ → Option (List ℕ) → Option (List ℕ) → Result (Unit {0}) Fault → Type 0
AnswersFromOn board files name old new result =
    ((result ≡ Err fault.NoFolder) × Keeps old new)
    ⊎ ((found : Option Files) × folder.AreUnchanged files found × AnswersFound board found name old new result)

-- what it answers on the board of a name, which is that of its files
abbrev pub AnswersFrom : Option Shape → Option Files → List ℕ → Option (List ℕ) → Option (List ℕ) → Result (Unit {0}) Fault → Type 0
AnswersFrom named files name old new result = OnBoard named result (Keeps old new) (λ board. AnswersFromOn board files name old new result)
