-- What `probe` makes of a bundle, and what it prints of a position.
use Rattle.std.specs.Prelude.{◌≡◌, ◌⊎◌, ℕ, List, Option, Some, None, Result, Ok, Err, IsOk}
use Rattle.std.specs.Io.KnownBytes.{Keeps}
use Rattle.morris_board.specs.Boards.{Shape}
use Rattle.morris_board.specs.Positions.{Sides, read_of}
use Rattle.morris_index.specs.Pairs.{Counts, counts}
use Rattle.morris_pairs.specs.Shelves.{Stored, table_on}
use Rattle.morris_pairs.specs.Tables.{Table}
use Rattle.morris_probe.specs.Probing.{missing_table}
use Rattle.morris_probe.specs.Reports.{IsReport}
use Rattle.morris_jobs.specs.declared.fault.Fault.{Fault}
use Rattle.morris_jobs.specs.declared.fault.Fault.TheVariants as fault
use Rattle.morris_jobs.specs.Faults.{Prints, text_fault}
use Rattle.morris_jobs.specs.Answering.{OnBoard, OnRead}
use Rattle.morris_jobs.specs.Bundles.{TakesBundle, most_files}
use Rattle.morris_jobs.specs.Inputs.{Input, IsUnfit, Joins}

-- ---- the bundle

-- what becomes of a table over a shelf: it joins it, or is the reason of a refusal
abbrev pub Shelves : Shape → Stored → Table → Stored → Result (Unit {0}) Fault → Type 0
Shelves board shelf t next (Ok done) = Joins board shelf next t
Shelves board shelf t next (Err refused) = IsUnfit board shelf t refused

-- The tables of a bundle: room for a shelf may be missing; otherwise the files are taken on an
-- empty one.
abbrev pub LoadsBundle : Shape → Input → Input → Result Stored Fault → Type 0
LoadsBundle board before after result =
    ((result ≡ Err fault.Memory) × (after ≡ before))
    ⊎ ((empty : Stored) × ((c : Counts) → table_on empty c ≡ None)
    × (shelf : Stored) × TakesBundle board (Shelves board) (λ full. Ok full) most_files empty before (result, shelf, after))

-- ---- the answer

-- What is answered over a shelf: that the table of the position's pair isn't there, or want of
-- memory, with nothing printed; otherwise the report is printed, which has the position's value in
-- the game and exactly its best moves.
abbrev pub AnswersReport : {T : Type 0} → Shape → Stored → Sides → Option (List ℕ) → Option (List ℕ) → Result T Fault → Type 0
AnswersReport board shelf s old new (Err (fault.Needs greater lesser)) = (missing_table shelf s ≡ Some (counts greater lesser)) × Keeps old new
AnswersReport board shelf s old new (Err fault.Memory) = (missing_table shelf s ≡ None) × Keeps old new
AnswersReport board shelf s old new result =
    (missing_table shelf s ≡ None) × ((text : List ℕ) × IsReport board s text × Prints old new text result)

-- What it answers on a board, of the position of a position string: what comes of the bundle on the
-- input, and of the position over its tables.
abbrev pub AnswersOnBoard : {T : Type 0} → Shape → List ℕ → Input → Input → Option (List ℕ) → Option (List ℕ) → Result T Fault → Type 0
AnswersOnBoard board text before after old new result =
    OnRead text_fault (read_of board text) result ((after ≡ before) × Keeps old new) (λ s.
    (outcome : Result Stored Fault) × LoadsBundle board before after outcome
    × OnRead (λ refused. refused) outcome result (Keeps old new) (λ shelf. AnswersReport board shelf s old new result))

-- what it answers on the board of a name
abbrev pub AnswersProbe : {T : Type 0} → Option Shape → List ℕ → Input → Input → Option (List ℕ) → Option (List ℕ) → Result T Fault → Type 0
AnswersProbe named text before after old new result =
    OnBoard named result ((after ≡ before) × Keeps old new) (λ board. AnswersOnBoard board text before after old new result)

-- whether `probe` comes to read its input: the board is there, and the text is a position string
abbrev pub IsAsked : Option Shape → List ℕ → Type 0
IsAsked None text = ⊥
IsAsked (Some board) text = IsOk (read_of board text)
