-- What is answered of build arguments: of the pair that they name, and of their workers and blocks.
use Rattle.std.proofs.Common.{◌≡◌, ℕ, Bool, true, false, List, Option, None, Some, Result, Ok, Err, refl, sym, ap, subst, ◌∙◌}
use Rattle.std.specs.Prelude.{◌-◌, option_map, slice_index, if◌then◌else◌}
use Rattle.morris_board.specs.Boards.{Shape}
use Rattle.morris_index.specs.Pairs.{Counts, make_pair}
use Rattle.morris_index.specs.declared.faults.PairFault.{PairFault}
use Rattle.morris_index.specs.declared.faults.PairFault.TheVariants as pair
use Rattle.morris_workers.specs.Ranges.{range_fault}
use Rattle.morris_workers.specs.declared.fault.SolveFault.{SolveFault}
use Rattle.morris_workers.specs.declared.fault.SolveFault.TheVariants as solve
use Rattle.morris_jobs.specs.Answering.{OnBuildArgs, OnRead, OnParallelism}
use Rattle.morris_jobs.specs.Faults.{is_write, solve_fault}
use Rattle.morris_jobs.specs.PairText.{is_pair_text, pair_read, read_pair_of}
use Rattle.morris_jobs.specs.declared.fault.Fault.{Fault}
use Rattle.morris_jobs.specs.declared.fault.Fault.TheVariants as fault

module _ {T : Type 0} {n : ℕ} (board : Shape) (points : board.points ≡ n) (text : List ℕ) (pair : Counts) (read : Ok pair ≡ read_pair_of n text) (r : Result T Fault) (untouched : Type 0) (answers : Counts → Type 0) where
  pub answers_read : answers pair → OnRead (λ refused. refused) (read_pair_of board.points text) r untouched answers
  answers_read here =
      subst (λ found. OnRead (λ refused. refused) found r untouched answers) (read ∙ ap (λ m. read_pair_of m text) (sym points)) here

  pub answers_order : (workers blocks : ℕ) → range_fault workers blocks ≡ None → answers pair → OnBuildArgs board text workers blocks r untouched answers
  answers_order workers blocks fits here =
      subst (λ found. OnRead (λ refused. refused) found r untouched (λ c. OnParallelism (range_fault workers blocks) r untouched (answers c)))
      (read ∙ ap (λ m. read_pair_of m text) (sym points)) (subst (λ wrong. OnParallelism wrong r untouched (answers pair)) (sym fits) here)

-- what holds of each refusal of a text that names no pair, and of workers and blocks out of range
module _ (P : Fault → Type 0) where
  pub of_unread : P fault.Counts → P fault.Crowded → P fault.PairText → (n : ℕ) (text : List ℕ) (f : Fault) → Err f ≡ read_pair_of n text → P f
  of_unread counts crowded unnamed n text f e = by_test (is_pair_text text) (make_pair n (slice_index text 0 - 48) (slice_index text 2 - 48)) e
    where
      by_test : (b : Bool) (made : Result Counts PairFault) → Err f ≡ (if b then pair_read made else Err fault.PairText) → P f
      by_test true (Ok made) e = cc
      by_test true (Err pair.Counts) e = let same : fault.Counts ≡ f = cc in subst P same counts
      by_test true (Err pair.Crowded) e = let same : fault.Crowded ≡ f = cc in subst P same crowded
      by_test false made e = let same : fault.PairText ≡ f = cc in subst P same unnamed

  pub of_unfit : P fault.Workers → P fault.Blocks → P fault.Memory → ((number : ℕ) → P (fault.Missing number)) → P fault.TooDeep
      → (wrong : Option SolveFault) (f : Fault) → option_map solve_fault wrong ≡ Some f → P f
  of_unfit workers blocks memory missing deep None f e = cc
  of_unfit workers blocks memory missing deep (Some refused) f e = let same : solve_fault refused ≡ f = cc in subst P same (solved refused)
    where
      solved : (refused : SolveFault) → P (solve_fault refused)
      solved solve.Workers = workers
      solved solve.Blocks = blocks
      solved solve.Memory = memory
      solved (solve.Missing number) = missing number
      solved solve.TooDeep = deep

-- neither is that of a write
pub unread_unwritten : (n : ℕ) (text : List ℕ) (f : Fault) → Err f ≡ read_pair_of n text → is_write f ≡ false
unread_unwritten = of_unread (λ f. is_write f ≡ false) refl refl refl

pub unfit_unwritten : (wrong : Option SolveFault) (f : Fault) → option_map solve_fault wrong ≡ Some f → is_write f ≡ false
unfit_unwritten = of_unfit (λ f. is_write f ≡ false) refl refl refl (λ number. refl) refl
