-- How a command comes to what it does: by the name of a board, by a text or a file that it reads,
-- and by how many workers and blocks there may be. Where one of these is refused, the refusal is
-- its answer, and all is as it was.
use Rattle.std.specs.Prelude.{◌≡◌, ℕ, List, Option, Some, None, Result, Ok, Err}
use Rattle.morris_board.specs.Boards.{Shape}
use Rattle.morris_index.specs.Pairs.{Counts}
use Rattle.morris_workers.specs.Ranges.{range_fault}
use Rattle.morris_workers.specs.declared.fault.SolveFault.{SolveFault}
use Rattle.morris_jobs.specs.declared.fault.Fault.{Fault}
use Rattle.morris_jobs.specs.declared.fault.Fault.TheVariants as fault
use Rattle.morris_jobs.specs.Faults.{solve_fault}
use Rattle.morris_jobs.specs.PairText.{read_pair_of}

-- the fault of a board that isn't there, or what is answered on the board
abbrev pub OnBoard : {T : Type 0} → Option Shape → Result T Fault → Type 0 → (Shape → Type 0) → Type 0
OnBoard None result untouched answers = (result ≡ Err fault.Board) × untouched
OnBoard (Some board) result untouched answers = answers board

-- the fault of a refusal, or what is answered of what was read
abbrev pub OnRead : {A E T : Type 0} → (E → Fault) → Result A E → Result T Fault → Type 0 → (A → Type 0) → Type 0
OnRead reported (Err refused) result untouched answers = (result ≡ Err (reported refused)) × untouched
OnRead reported (Ok value) result untouched answers = answers value

-- the fault of so many workers or blocks that there may not be, or what is answered
abbrev pub OnParallelism : {T : Type 0} → Option SolveFault → Result T Fault → Type 0 → Type 0 → Type 0
OnParallelism (Some refused) result untouched answers = (result ≡ Err (solve_fault refused)) × untouched
OnParallelism None result untouched answers = answers

-- what is answered on a board of the pair that a text names, by so many workers over so many blocks
abbrev pub OnBuildArgs : {T : Type 0} → Shape → List ℕ → ℕ → ℕ → Result T Fault → Type 0 → (Counts → Type 0) → Type 0
OnBuildArgs board text workers blocks result untouched answers =
    OnRead (λ refused. refused) (read_pair_of board.points text) result untouched
    (λ pair. OnParallelism (range_fault workers blocks) result untouched (answers pair))
