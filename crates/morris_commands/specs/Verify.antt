-- What `verify` answers of the bytes of its input, and what it prints.
use Rattle.std.specs.Prelude.{◌≡◌, ◌⊎◌, ℕ, List, length, Option, Result, Err}
use Rattle.std.specs.Io.KnownBytes.{Keeps}
use Rattle.morris_board.specs.Boards.{Shape}
use Rattle.morris_pairs.specs.Tables.{IsTable, Table}
use Rattle.morris_pairs.specs.Agreement.{IsFirstToDiffer}
use Rattle.morris_pairs.specs.FileReading.{CountsRead, MayTakeRoom, Reads, StandsInFile, bytes_past, only_file_in}
use Rattle.morris_pairs.specs.declared.file_faults.ReadFault.{ReadFault}
use Rattle.morris_pairs.specs.declared.file_faults.ReadFault.TheVariants as read
use Rattle.morris_jobs.specs.declared.fault.Fault.{Fault}
use Rattle.morris_jobs.specs.declared.fault.Fault.TheVariants as fault
use Rattle.morris_jobs.specs.Faults.{Prints, read_fault}
use Rattle.morris_jobs.specs.Inputs.{Input}
use Rattle.morris_jobs.specs.Verified.{verified_text}
use Rattle.morris_jobs.specs.Answering.{OnBoard, OnRead}
use Rattle.morris_commands.specs.Build.{IsUnbuiltBefore, RestsOnTooDeep}

-- Why a table that was read isn't verified: the pairs on which its own rests aren't built; or,
-- where codes suffice for them, the first entry that isn't what the rules give from those of its
-- results.
abbrev pub IsUnverified : Shape → Table → ℕ → Fault → Type 0
IsUnverified board t blocks (fault.Differs index) = ¬ RestsOnTooDeep board t.pair × IsFirstToDiffer board t index
IsUnverified board t blocks refused = IsUnbuiltBefore board t.pair blocks refused

-- What `verify` answers of a table that was read, with the pairs below it built by so many blocks:
-- such a refusal, with nothing printed; otherwise codes suffice for all depths in the pairs on
-- which its own rests, the codes of the table are the game's, and the text is printed.
abbrev pub AnswersTable : {T : Type 0} → Shape → ℕ → Table → Option (List ℕ) → Option (List ℕ) → Result T Fault → Type 0
AnswersTable board blocks t old new result =
    ((refused : Fault) × (result ≡ Err refused) × IsUnverified board t blocks refused × Keeps old new)
    ⊎ (¬ RestsOnTooDeep board t.pair × IsTable board t × Prints old new (verified_text t.pair (length t.codes)) result)

-- What it answers on a board: what was read of the whole input, as a table's file, and the answer
-- to that. Memory runs out in the file only if nothing before the first allocation refuses it. The
-- input stands in that file, or one byte past it where one more byte is why it is refused.
abbrev pub AnswersInput : {T : Type 0} → Shape → ℕ → Input → Input → Option (List ℕ) → Option (List ℕ) → Result T Fault → Type 0
AnswersInput board blocks before after old new result =
    (found : Result Table ReadFault) × Reads (only_file_in board) before.bytes after.bytes found × CountsRead before.failures after.failures found
    × (found ≡ Err read.Memory → MayTakeRoom board before.bytes)
    × StandsInFile board (bytes_past found) before.bytes after.bytes
    × OnRead read_fault found result (Keeps old new) (λ t. AnswersTable board blocks t old new result)

-- what it answers on the board of a name
abbrev pub AnswersVerify : {T : Type 0} → Option Shape → ℕ → Input → Input → Option (List ℕ) → Option (List ℕ) → Result T Fault → Type 0
AnswersVerify named blocks before after old new result =
    OnBoard named result ((after ≡ before) × Keeps old new) (λ board. AnswersInput board blocks before after old new result)
