-- The steps of `build --into`: what each leaves to do.
use Rattle.std.specs.Prelude.{◌≡◌, ℕ, List, [], ◌∷◌, ◌++◌, length, Option, Some, None, Result, Ok, Err, option_to_list}
use Rattle.sha2.specs.Sha256.{sha256}
use Rattle.morris_board.specs.Boards.{Shape}
use Rattle.morris_board.specs.Streams.{AllSent}
use Rattle.morris_index.specs.Pairs.{Counts}
use Rattle.morris_pairs.specs.declared.layout.Layout.{Layout}
use Rattle.morris_pairs.specs.Known.{IsBeyondCodes}
use Rattle.morris_pairs.specs.Shelves.{Stored}
use Rattle.morris_pairs.specs.TableFiles.{file_of}
use Rattle.morris_pairs.specs.Tables.{Table}
use Rattle.morris_files.specs.Files.{Files}
use Rattle.morris_files.specs.Digests.{digest_lines}
use Rattle.morris_files.specs.declared.table_file.Written.{Written}
use Rattle.morris_jobs.specs.declared.fault.Fault.{Fault}
use Rattle.morris_jobs.specs.Faults.{PrintsLine}
use Rattle.morris_jobs.specs.Building.{HasExactAt}
use Rattle.morris_folder_commands.specs.Into.{Ends, Fills, FillsFolder, IsFiled, IsUnfiled, Place, filed_text}

-- what is printed of the file of a table
pub record IsOf {B : Type 0} (board : Shape) (t : Table) (w : Written B) : Type 0 where
  pub pair : w.pair ≡ t.pair
  pub entries : w.entries ≡ length t.codes
  pub bytes : w.bytes ≡ length (file_of board t)
  pub digest : w.digest ≡ sha256 (file_of board t)

-- the file of a table is written, and what is printed of it is its own; or it isn't written
abbrev pub StoresTable : {B : Type 0} → Shape → List ℕ → Table → Option Files → Option Files → Result (Written B) Fault → Type 0
StoresTable board name t old new (Ok w) = IsFiled board name t old new × IsOf board t w
StoresTable board name t old new (Err refused) = IsUnfiled board name t old new refused

-- once the list of digests is written, or isn't, the folder is filled; the list begins with the
-- lines that were retained
abbrev pub IsFilledBut : Shape → Layout → List ℕ → Counts → ℕ → List ℕ → Place → Place → List ℕ → Type 0
IsFilledBut board l name pair blocks unchanged before here digests =
    (after : Place) (result : Result (Unit {0}) Fault) → Ends name (unchanged ++ digests) here after result → FillsFolder board l name pair blocks unchanged before after result

-- ---- how far a folder is filled

-- What is left to do: the pairs whose files aren't written, in order; how many bytes were printed;
-- the digests of the files that were written; and the files of the folder and what was printed.
pub record Rest : Type 0 where
  pub pairs : List Counts
  pub sent : ℕ
  pub digests : List ℕ
  pub here : Place

-- what is left where these files are written: that of the pair that waits, where one does, and then
-- those of the other pairs
abbrev pub rest_of : {B : Type 0} → List ℕ → List (Written B) → ℕ → Option Counts → List Counts → Place → Rest
rest_of {B = B} name written sent waiting pairs here = record {
  pairs = option_to_list waiting ++ pairs;
  sent = sent;
  digests = digest_lines name (λ (w : Written B). w.pair) (λ (w : Written B). w.digest) written;
  here = here;
}

-- whatever ends one rest ends the other
abbrev pub LeadsTo : Shape → Layout → List ℕ → ℕ → Rest → Rest → Type 0
LeadsTo board l name blocks from to =
    (unchanged : List ℕ) (after : Place) (result : Result (Unit {0}) Fault)
    → Fills board l name blocks unchanged to.pairs to.sent to.digests to.here after result
    → Fills board l name blocks unchanged from.pairs from.sent from.digests from.here after result

-- one rest leads to another, or is refused there
abbrev pub GoesOn : {T : Type 0} → Shape → Layout → List ℕ → ℕ → Rest → Rest → Result T Fault → Type 0
GoesOn board l name blocks from to (Ok done) = LeadsTo board l name blocks from to
GoesOn board l name blocks from to (Err refused) =
    (unchanged : List ℕ) → Fills board l name blocks unchanged from.pairs from.sent from.digests from.here to.here (Err refused)

-- what is printed of a file that was written, after others of which so many bytes were printed; or
-- of a refusal
abbrev pub PrintsFile : {B : Type 0} → Result (Written B) Fault → List (Written B) → List (Written B) → ℕ → ℕ → Option (List ℕ) → Option (List ℕ)
    → Result (Unit {0}) Fault → Type 0
PrintsFile (Err refused) old new sent now before after result = (result ≡ Err refused) × (after ≡ before)
PrintsFile (Ok w) old new sent now before after (Ok done) =
    AllSent before after sent now (filed_text w.pair w.entries w.bytes w.digest) × (new ≡ old ++ w ∷ [])
PrintsFile (Ok w) old new sent now before after (Err refused) = PrintsLine (filed_text w.pair w.entries w.bytes w.digest) sent before after (Err refused)

-- the table of a pair is there, and codes suffice for it
abbrev pub IsThere : Shape → Layout → Stored → Counts → Type 0
IsThere board l tables c = HasExactAt board l tables c × ¬ IsBeyondCodes board c
