-- What `build --into` does to a folder, and what it prints.
use Rattle.std.specs.Prelude.{◌≡◌, ◌⊎◌, ℕ, List, [], ◌∷◌, ◌++◌, length, codes, Option, Some, None, Result, Ok, Err, IsOk}
use Rattle.std.specs.Fmt.{decimal}
use Rattle.std.specs.Io.KnownBytes.{Keeps}
use Rattle.sha2.specs.Sha256.{sha256}
use Rattle.hex.specs.Hex.{encode_lower}
use Rattle.morris_board.specs.Boards.{Shape}
use Rattle.morris_index.specs.Pairs.{Counts, below_of, pair_text}
use Rattle.morris_workers.specs.Ranges.{range_fault}
use Rattle.morris_pairs.specs.declared.layout.Layout.{Layout}
use Rattle.morris_pairs.specs.Known.{IsBeyondCodes}
use Rattle.morris_pairs.specs.TableFiles.{file_of}
use Rattle.morris_pairs.specs.Tables.{IsTable, Table}
use Rattle.morris_files.specs.Files.{Files, Goes}
use Rattle.morris_files.specs.Files as folder
use Rattle.morris_files.specs.Whole.{AreWhole, AreNotWhole}
use Rattle.morris_files.specs.declared.whole.NotWhole.{NotWhole}
use Rattle.morris_files.specs.declared.whole.Step.{Step}
use Rattle.morris_files.specs.declared.whole.Step.TheVariants as step
use Rattle.morris_files.specs.Digests.{digest_line}
use Rattle.morris_files.specs.Names.{digests_name_of, name_of}
use Rattle.morris_jobs.specs.declared.fault.Fault.{Fault}
use Rattle.morris_jobs.specs.declared.fault.Fault.TheVariants as fault
use Rattle.morris_jobs.specs.Building.{IsUnbuiltAt}
use Rattle.morris_jobs.specs.Answering.{OnBoard, OnBuildArgs}
use Rattle.morris_jobs.specs.Faults.{PrintsLine}
use Rattle.morris_jobs.specs.PairText.{read_pair_of}
use Rattle.morris_folder_commands.specs.Entering.{IsBegun, IsEntered, IsShut, IsUnbegun}

-- ---- what is printed

-- `a-b S entries L bytes D`: the pair of a table, how many entries it has, how many bytes its file
-- has, and the file's SHA-256 in hexadecimal digits
unfoldable pub filed_text : Counts → ℕ → ℕ → List ℕ → List ℕ
filed_text pair entries bytes digest =
    pair_text pair ++ (codes " " ++ decimal entries) ++ (codes " entries " ++ decimal bytes) ++ (codes " bytes " ++ encode_lower digest ++ (10 ∷ []))

-- the line of the file of a table
abbrev pub filed_line : Shape → Table → List ℕ
filed_line board t = filed_text t.pair (length t.codes) (length (file_of board t)) (sha256 (file_of board t))

-- ---- one pair

-- the files of a folder and the bytes that an output has taken, where they are known
pub record Place : Type 0 where
  pub files : Option Files
  pub out : Option (List ℕ)

abbrev pub place_of : Option Files → Option (List ℕ) → Place
place_of files out = record { files = files; out = out }

-- no file is changed and nothing printed
pub record StaysPut (before after : Place) : Type 0 where
  pub files : folder.AreUnchanged before.files after.files
  pub out : Keeps before.out after.out

-- a table of a pair in a layout, in which each code is the game's value and exact depth
pub record IsBuilt (board : Shape) (l : Layout) (c : Counts) (t : Table) : Type 0 where
  pub of_pair : t.pair ≡ c
  pub of_layout : t.layout ≡ l
  pub exact : IsTable board t

-- the file of a table stands whole under the name of its pair, and each other file as it was
abbrev pub IsFiled : Shape → List ℕ → Table → Option Files → Option Files → Type 0
IsFiled board name t old new = Goes old new (AreWhole (name_of name t.pair) (file_of board t))

-- the fault that answers a file which isn't written: want of memory, or that it isn't
abbrev pub step_fault : Fault → Step → Fault
step_fault reported step.Memory = fault.Memory
step_fault reported _ = reported

-- the file of a table isn't written: what stood under its name stands there, or the whole file
abbrev pub IsUnfiled : Shape → List ℕ → Table → Option Files → Option Files → Fault → Type 0
IsUnfiled board name t old new refused =
    (why : NotWhole) × (refused ≡ step_fault (fault.Unwritten t.pair.greater t.pair.lesser) why.step) × Goes old new (AreNotWhole (name_of name t.pair) (file_of board t) why)

-- What is done of a pair whose table was built: its file isn't written, and nothing printed; or it
-- is written, and then its line printed, or its first bytes. `sent` bytes were printed before.
abbrev pub IsDone : Shape → List ℕ → Table → ℕ → Place → Place → Result ℕ Fault → Type 0
IsDone board name t sent before after result =
    ((refused : Fault) × (result ≡ Err refused) × IsUnfiled board name t before.files after.files refused × Keeps before.out after.out)
    ⊎ (IsFiled board name t before.files after.files × PrintsLine (filed_line board t) sent before.out after.out result)

-- what follows from that: the fault, or what comes next
abbrev pub AfterDoing : Place → Place → Result (Unit {0}) Fault → (ℕ → Type 0) → Result ℕ Fault → Type 0
AfterDoing here after result next (Err refused) = (result ≡ Err refused) × (after ≡ here)
AfterDoing here after result next (Ok now) = next now

-- ---- all pairs

-- What is done at the end: the list of digests is written, with this text, or it isn't.
abbrev pub Ends : List ℕ → List ℕ → Place → Place → Result (Unit {0}) Fault → Type 0
Ends name digests before after (Ok done) =
    Goes before.files after.files (AreWhole (digests_name_of name) digests) × Keeps before.out after.out
Ends name digests before after (Err refused) =
    (why : NotWhole) × (refused ≡ step_fault fault.Digests why.step) × Goes before.files after.files (AreNotWhole (digests_name_of name) digests why)
    × Keeps before.out after.out

-- the line of the digest of a table's file
abbrev pub digest_of : Shape → List ℕ → Table → List ℕ
digest_of board name t = digest_line name t.pair (sha256 (file_of board t))

-- The pairs are done one after the other: a table is built, its file written and its line printed,
-- before anything is written or printed of the next pair. The first refusal ends it: the pair isn't
-- built, and all is as it was; or it is built and not done. `sent` bytes were printed before, and
-- the files that were written before have these digests. At the end the list has the retained
-- lines, and then these.
unfoldable pub Fills : Shape → Layout → List ℕ → ℕ → List ℕ → List Counts → ℕ → List ℕ → Place → Place → Result (Unit {0}) Fault → Type 0
Fills board l name blocks retained [] sent digests before after result = Ends name (retained ++ digests) before after result
Fills board l name blocks retained (c ∷ pairs) sent digests before after result =
    ((refused : Fault) × (result ≡ Err refused) × IsUnbuiltAt board c blocks refused × StaysPut before after)
    ⊎ ((t : Table) × IsBuilt board l c t × ¬ IsBeyondCodes board c
    × ((next : Place) × (done : Result ℕ Fault) × IsDone board name t sent before next done
    × AfterDoing next after result
    (λ now. Fills board l name blocks retained pairs now (digests ++ digest_of board name t) next after result) done))

-- ---- the answer

-- What it answers once the list of digests has the retained lines alone: there is no room to begin,
-- with nothing written; otherwise the pairs below are done, the pair's own the last.
abbrev pub FillsFolder : Shape → Layout → List ℕ → Counts → ℕ → List ℕ → Place → Place → Result (Unit {0}) Fault → Type 0
FillsFolder board l name pair blocks retained before after result =
    ((result ≡ Err fault.Memory) × StaysPut before after) ⊎ Fills board l name blocks retained (below_of pair) 0 [] before after result

-- What it answers in a folder that is locked: the list of digests can't be read, or not be left
-- with the lines of those files alone that aren't replaced; otherwise what it answers once it is.
abbrev pub AnswersLocked : Shape → Layout → List ℕ → Counts → ℕ → Place → Place → Result (Unit {0}) Fault → Type 0
AnswersLocked board l name pair blocks before after result =
    ((refused : Fault) × (result ≡ Err refused) × IsUnbegun name before.files after.files refused × Keeps before.out after.out)
    ⊎ ((retained : List ℕ) × (begun : Place) × IsBegun name pair retained before.files begun.files × Keeps before.out begun.out
    × FillsFolder board l name pair blocks retained begun after result)

-- What it answers of a pair: the folder isn't made and locked, with nothing written; otherwise what
-- it answers once it is, with the files that it had.
abbrev pub AnswersFolder : Shape → Layout → List ℕ → Counts → ℕ → Place → Place → Result (Unit {0}) Fault → Type 0
AnswersFolder board l name pair blocks before after result =
    ((refused : Fault) × (result ≡ Err refused) × IsShut before.files after.files refused × Keeps before.out after.out)
    ⊎ ((entered : Place) × IsEntered before.files entered.files × Keeps before.out entered.out × AnswersLocked board l name pair blocks entered after result)

-- What it answers on a board, of the pair that a text names, with so many workers and blocks; the
-- name of the board is that of its files.
abbrev pub AnswersIntoOn : Shape → Layout → List ℕ → List ℕ → ℕ → ℕ → Place → Place → Result (Unit {0}) Fault → Type 0
AnswersIntoOn board l name text workers blocks before after result =
    OnBuildArgs board text workers blocks result (StaysPut before after) (λ pair. AnswersFolder board l name pair blocks before after result)

-- what it answers on the board of a name
abbrev pub AnswersInto : Option Shape → Layout → List ℕ → List ℕ → ℕ → ℕ → Place → Place → Result (Unit {0}) Fault → Type 0
AnswersInto named l name text workers blocks before after result =
    OnBoard named result (StaysPut before after) (λ board. AnswersIntoOn board l name text workers blocks before after result)

-- whether a folder is touched: the board is there, the text is that of a pair, and there may be so
-- many workers and blocks
abbrev pub IsAsked : Option Shape → List ℕ → ℕ → ℕ → Type 0
IsAsked None text workers blocks = ⊥
IsAsked (Some board) text workers blocks = IsOk (read_pair_of board.points text) × (range_fault workers blocks ≡ None)
