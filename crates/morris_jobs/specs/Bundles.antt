-- A bundle, which is any number of table files one after the other, and how it is gone through.
use Rattle.std.specs.Prelude.{◌≡◌, ℕ, zero, suc, Option, Some, None, Result, Ok, Err}
use Rattle.morris_board.specs.Boards.{Shape}
use Rattle.morris_pairs.specs.FileReading.{CountsRead, MayTakeRoom, Reads, StandsInFile, next_file_in}
use Rattle.morris_pairs.specs.Tables.{Table}
use Rattle.morris_pairs.specs.declared.file_faults.ReadFault.{ReadFault}
use Rattle.morris_pairs.specs.declared.file_faults.ReadFault.TheVariants as read
use Rattle.morris_jobs.specs.declared.fault.Fault.{Fault}
use Rattle.morris_jobs.specs.declared.fault.Fault.TheVariants as fault
use Rattle.morris_jobs.specs.Faults.{read_fault}
use Rattle.morris_jobs.specs.Inputs.{Input}

-- The next file of an input, which is `before` and then `after`, is read so: its table is found, or
-- none where there is no byte, or why it is refused. Memory runs out in it only if nothing before
-- the first allocation refuses the file.
pub record IsNext (board : Shape) (before after : Input) (found : Result (Option Table) ReadFault) : Type 0 where
  pub room : found ≡ Err read.Memory → MayTakeRoom board before.bytes
  pub read : Reads (next_file_in board) before.bytes after.bytes found
  pub counted : CountsRead before.failures after.failures found
  pub place : StandsInFile board 0 before.bytes after.bytes

-- at most so many files are taken
abbrev pub most_files : ℕ
most_files = 64

-- how a bundle ends: what is answered, the state after its files, and what is then left of the
-- input
abbrev pub Ending : Type 0 → Type 0 → Type 0
Ending A S = Result A Fault × S × Input

-- Each table is taken, which leads from the state after the files before it to the next one, or is
-- refused; where each was taken, the state after all is answered.
module _ {A S : Type 0} (board : Shape) (takes : S → Table → S → Result (Unit {0}) Fault → Type 0) (answer : S → Result A Fault) where
  -- what follows from what was read: the fault of a file that is refused, or the end, or what
  -- becomes of the file's table
  abbrev pub AfterNext : S → Input → Ending A S → (Table → Type 0) → Result (Option Table) ReadFault → Type 0
  AfterNext here after ending taken (Err refused) = ending ≡ (Err (read_fault refused), here, after)
  AfterNext here after ending taken (Ok None) = ending ≡ (answer here, here, after)
  AfterNext here after ending taken (Ok (Some t)) = taken t

  -- what follows from that: the end, or what comes next
  abbrev pub AfterTaking : S → Input → Ending A S → Type 0 → Result (Unit {0}) Fault → Type 0
  AfterTaking here after ending next (Err refused) = ending ≡ (Err refused, here, after)
  AfterTaking here after ending next (Ok done) = next

  -- A bundle is gone through file by file: the table of a file is taken before the next file is
  -- read. The first refusal ends it, and nothing more is read. Where no more files are taken, one
  -- more is too many.
  unfoldable pub TakesBundle : ℕ → S → Input → Ending A S → Type 0
  TakesBundle zero here before ending =
      (after : Input) × (found : Result (Option Table) ReadFault) × IsNext board before after found
      × AfterNext here after ending (λ t. ending ≡ (Err fault.TooMany, here, after)) found
  TakesBundle (suc more) here before ending =
      (after : Input) × (found : Result (Option Table) ReadFault) × IsNext board before after found
      × AfterNext here after ending
      (λ t. (next : S) × (taken : Result (Unit {0}) Fault) × takes here t next taken
      × AfterTaking next after ending (TakesBundle more next after ending) taken) found
