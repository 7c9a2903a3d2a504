-- What `verify --all` makes of a bundle, and what it prints.
use Rattle.std.specs.Prelude.{◌≡◌, ◌⊎◌, ℕ, Bool, true, false, List, Option, None, Result, Ok, Err}
use Rattle.std.specs.Io.KnownBytes.{Keeps}
use Rattle.morris_board.specs.Boards.{Shape}
use Rattle.morris_index.specs.Pairs.{Counts}
use Rattle.morris_pairs.specs.Shelves.{Stored, table_on}
use Rattle.morris_pairs.specs.Tables.{Table}
use Rattle.morris_jobs.specs.declared.fault.Fault.{Fault}
use Rattle.morris_jobs.specs.declared.fault.Fault.TheVariants as fault
use Rattle.morris_jobs.specs.Answering.{OnBoard}
use Rattle.morris_jobs.specs.Bundles.{TakesBundle, most_files}
use Rattle.morris_jobs.specs.Inputs.{Input}
use Rattle.morris_jobs.specs.Building.{RetainsNear}
use Rattle.morris_folder_commands.specs.From.{TakesIn, end_of}

-- the state: the set of tables, whether there was a file, how many bytes were printed, and what the
-- output has taken
pub record Reached : Type 0 where
  pub tables : Stored
  pub some : Bool
  pub sent : ℕ
  pub out : Option (List ℕ)

abbrev pub reached : Stored → Bool → ℕ → Option (List ℕ) → Reached
reached tables some sent out = record { tables = tables; some = some; sent = sent; out = out }

-- What becomes of a table: those are dropped that neither its pair nor one of more stones needs,
-- and then it joins the others and its line is printed; or the command ends.
abbrev pub TakesFile : Shape → Reached → Table → Reached → Result (Unit {0}) Fault → Type 0
TakesFile board here t next taken =
    (near : Stored) × RetainsNear here.tables near t.pair × (next.some ≡ true)
    × TakesIn board near next.tables t here.sent here.out next.out (elim taken [ Ok done ↦ Ok next.sent | Err refused ↦ Err refused ])

-- What it answers on a board: there is no room for a set of tables, with nothing read and nothing
-- printed; otherwise what comes of the bundle, over an empty set.
abbrev pub AnswersBundleOn : Shape → Input → Input → Option (List ℕ) → Option (List ℕ) → Result (Unit {0}) Fault → Type 0
AnswersBundleOn board before after old new result =
    ((result ≡ Err fault.Memory) × (after ≡ before) × Keeps old new)
    ⊎ ((empty : Stored) × ((c : Counts) → table_on empty c ≡ None)
    × (last : Reached) × (last.out ≡ new)
    × TakesBundle board (TakesFile board) (λ here. end_of here.some) most_files (reached empty false 0 old) before (result, last, after))

-- what it answers on the board of a name
abbrev pub AnswersBundle : Option Shape → Input → Input → Option (List ℕ) → Option (List ℕ) → Result (Unit {0}) Fault → Type 0
AnswersBundle named before after old new result =
    OnBoard named result ((after ≡ before) × Keeps old new) (λ board. AnswersBundleOn board before after old new result)
