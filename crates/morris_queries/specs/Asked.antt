-- What is answered from the file of a pair in a folder, whatever is asked of it.
use Rattle.std.specs.Prelude.{◌≡◌, ◌⊎◌, ℕ, Bool, true, List, Option, Some, None, is_some, Result, Ok, Err}
use Rattle.std.specs.Io.KnownBytes.{Keeps}
use Rattle.morris_board.specs.Boards.{Shape}
use Rattle.morris_index.specs.Pairs.{Counts}
use Rattle.morris_files.specs.Files.{Files}
use Rattle.morris_pairs.specs.Counting.{CodedEntries, HasCode, coded_entries, is_shown}
use Rattle.morris_pairs.specs.Entries.{entry_index}
use Rattle.morris_lookup.specs.FileCodes.{codes_in_file}
use Rattle.morris_lookup.specs.Lookups.{IsExactFile}
use Rattle.morris_lookup.specs.Opening.{OpenFile}
use Rattle.morris_jobs.specs.declared.fault.Fault.{Fault}
use Rattle.morris_jobs.specs.declared.fault.Fault.TheVariants as fault
use Rattle.morris_jobs.specs.Answering.{OnBoard, OnRead}
use Rattle.morris_jobs.specs.Counted.{AnswersStated, PrintsTallies}
use Rattle.morris_jobs.specs.PairText.{read_pair_of}
use Rattle.morris_queries.specs.declared.file_questions.Question.{Question}
use Rattle.morris_queries.specs.declared.file_questions.Question.TheVariants.{Counts as Counting, Positions}
use Rattle.morris_queries.specs.declared.find.Shown.{Shown}
use Rattle.morris_queries.specs.declared.wanted.Wanted.{Wanted}
use Rattle.morris_queries.specs.Found.{AnswersFind, IsInGame, PrintsFound}
use Rattle.morris_queries.specs.Reports.{table_in}
use Rattle.morris_queries.specs.Wanted.{ReadsWanted}

-- the entries of an open file: their codes, where its bytes are known, and whether no read of them
-- fails
abbrev pub entries_in : Shape → OpenFile → CodedEntries
entries_in board file = coded_entries file.layout file.pair (codes_in_file board file) (is_some file.bytes)

-- What is answered of an open file: to a question for counts, how many positions have each code
-- that the file states; to one for positions, those that have the value.
abbrev pub AnswersFile : {T : Type 0} → Shape → OpenFile → Question → Option (List ℕ) → Option (List ℕ) → Result T Fault → Type 0
AnswersFile board file (Counting csv) old new result = AnswersStated board (entries_in board file) csv old new result
AnswersFile board file (Positions search) old new result =
    AnswersFind board (entries_in board file) search.all search.wanted search.shown old new result

-- What is printed where the file is that of an exact table: the same of the game, that is, what
-- `stats` prints; or the positions that have the value in the game.
abbrev pub PrintsGame : {T : Type 0} → Shape → OpenFile → Question → Option (List ℕ) → Option (List ℕ) → Result T Fault → Type 0
PrintsGame board file (Counting csv) old new result = PrintsTallies board file.pair csv (HasCode board file.pair) old new result
PrintsGame board file (Positions search) old new result =
    PrintsFound board (λ s code. HasCode board file.pair s code × (is_shown board file.layout search.all s ≡ true))
    (λ kind s. IsInGame board file.layout file.pair search.all kind s)
    (entry_index board board.points file.layout file.pair) search.wanted search.shown old new result

-- it is so, or memory was refused before
abbrev pub IsGameAnswer : {T : Type 0} → Shape → OpenFile → Question → Option (List ℕ) → Option (List ℕ) → Result T Fault → Type 0
IsGameAnswer board file question old new result =
    ((result ≡ Err fault.Memory) × Keeps old new) ⊎ PrintsGame board file question old new result

-- What is answered from the folder of these files, where they are known. That there is no such
-- folder is answered only where they aren't. Memory may be refused before anything is printed.
-- Where there isn't a file of the pair by its header and its length, the fault is that of `lookup`.
-- Else it is what the file states, and the game's where the file is that of an exact table.
abbrev pub AnswersFrom : {T : Type 0} → Shape → List ℕ → Option Files → Counts → Question → Option (List ℕ) → Option (List ℕ) → Result T Fault → Type 0
AnswersFrom board name known pair question old new result =
    ((result ≡ Err fault.NoFolder) × (known ≡ None) × Keeps old new)
    ⊎ (((result ≡ Err fault.Memory) × Keeps old new)
    ⊎ (((refused : Fault) × (result ≡ Err refused) × ((files : Files) → known ≡ Some files → table_in board name files pair ≡ Err refused) × Keeps old new)
    ⊎ ((file : OpenFile) × (file.pair ≡ pair) × ((files : Files) → known ≡ Some files → table_in board name files pair ≡ Ok file)
    × AnswersFile board file question old new result × (IsExactFile board file → IsGameAnswer board file question old new result))))

-- what `stats --from` answers on a board, of the pair of a name; and on the board of a name
abbrev pub CountsOn : {T : Type 0} → Shape → List ℕ → Option Files → List ℕ → Bool → Option (List ℕ) → Option (List ℕ) → Result T Fault → Type 0
CountsOn board name known text csv old new result =
    OnRead (λ refused. refused) (read_pair_of board.points text) result (Keeps old new) (λ pair. AnswersFrom board name known pair (Counting csv) old new result)

abbrev pub AnswersCountsFrom : {T : Type 0} → Option Shape → List ℕ → Option Files → List ℕ → Bool → Option (List ℕ) → Option (List ℕ) → Result T Fault → Type 0
AnswersCountsFrom named name known text csv old new result =
    OnBoard named result (Keeps old new) (λ board. CountsOn board name known text csv old new result)

-- what `find` answers on a board, of the pair and the value of two names; and on the board of a
-- name
abbrev pub FindsOn : {T : Type 0} → Shape → List ℕ → Option Files → List ℕ → List ℕ → Bool → Shown → Option (List ℕ) → Option (List ℕ) → Result T Fault → Type 0
FindsOn board name known text value all shown old new result =
    OnRead (λ refused. refused) (read_pair_of board.points text) result (Keeps old new) (λ pair.
    (wanted : Result Wanted Fault) × ReadsWanted value wanted × OnRead (λ refused. refused) wanted result (Keeps old new) (λ found.
    AnswersFrom board name known pair (Positions (record { wanted = found; all = all; shown = shown })) old new result))

abbrev pub AnswersFindFrom : {T : Type 0} → Option Shape → List ℕ → Option Files → List ℕ → List ℕ → Bool → Shown → Option (List ℕ) → Option (List ℕ) → Result T Fault → Type 0
AnswersFindFrom named name known text value all shown old new result =
    OnBoard named result (Keeps old new) (λ board. FindsOn board name known text value all shown old new result)
