-- Where a bundle leads that is gone through file by file.
use Rattle.std.proofs.Common.{◌≡◌, false, ℕ, zero, suc, ◌-◌, ◌+◌, ◌<◌, Option, Some, None, Result, Ok, Err, arith, refl, subst}
use Rattle.morris_board.specs.Boards.{Shape}
use Rattle.morris_pairs.specs.Tables.{Table}
use Rattle.morris_pairs.specs.declared.file_faults.ReadFault.{ReadFault}
use Rattle.morris_pairs.specs.declared.file_faults.ReadFault.TheVariants as read
use Rattle.morris_jobs.specs.declared.fault.Fault.{Fault}
use Rattle.morris_jobs.specs.declared.fault.Fault.TheVariants as fault
use Rattle.morris_jobs.specs.Bundles.{Ending, IsNext, TakesBundle}
use Rattle.morris_jobs.specs.Faults.{is_write, read_fault}
use Rattle.morris_jobs.specs.Inputs.{Input}

-- no room is wanting where something was read
pub no_room_wanting : {A : Type 0} (x : Option Table) → Ok x ≡ Err read.Memory → A
no_room_wanting x e =
    let bad : Ok x ≡ Err read.Memory = e in
    cc

-- after i files there are 63 - i files and one more
one_left : (i : ℕ) → i < 64 → suc (63 - i) ≡ 64 - i
one_left i low = omega arith

module _ {A S : Type 0} (board : Shape) (takes : S → Table → S → Result (Unit {0}) Fault → Type 0) (answer : S → Result A Fault) where
  abbrev Goes : ℕ → S → Input → Ending A S → Type 0
  Goes left here now ending = TakesBundle board takes answer left here now ending

  -- Some files of a bundle were taken: where the others lead, of which so many are taken at most,
  -- the whole bundle leads.
  abbrev pub Leads : S → Input → ℕ → S → Input → Type 0
  Leads start before left here now =
      (ending : Ending A S) → TakesBundle board takes answer left here now ending → TakesBundle board takes answer 64 start before ending

  -- a file that is refused
  pub refused_file : (left : ℕ) (here : S) (now after : Input) (refused : ReadFault) → IsNext board now after (Err refused)
      → Goes left here now (Err (read_fault refused), here, after)
  unfolding TakesBundle
  refused_file zero here now after refused next = (after, Err refused, next, refl)
  refused_file (suc left) here now after refused next = (after, Err refused, next, refl)

  -- the end of the bundle
  pub at_end : (left : ℕ) (here : S) (now after : Input) → IsNext board now after (Ok None) → Goes left here now (answer here, here, after)
  unfolding TakesBundle
  at_end zero here now after next = (after, Ok None, next, refl)
  at_end (suc left) here now after next = (after, Ok None, next, refl)

  -- a file where no more are taken
  pub one_too_many : (here : S) (now after : Input) (t : Table) → IsNext board now after (Ok (Some t)) → Goes 0 here now (Err fault.TooMany, here, after)
  unfolding TakesBundle
  one_too_many here now after t next = (after, Ok (Some t), next, refl)

  module _ (start here next : S) (before now after : Input) (t : Table) (i : ℕ) (low : i < 64) (leads : Leads start before (64 - i) here now)
      (is_next : IsNext board now after (Ok (Some t))) where
    -- a table that is refused
    pub leads_wrong : (refused : Fault) → takes here t next (Err refused) → Goes 64 start before (Err refused, next, after)
    unfolding TakesBundle
    leads_wrong refused taken =
        let ending : Ending A S = (Err refused, next, after) in
        let one : Goes (suc (63 - i)) here now ending = (after, Ok (Some t), is_next, (next, Err refused, taken, refl)) in
        leads ending (subst (λ n. Goes n here now ending) (one_left i low) one)

    -- one that is taken
    pub leads_on : takes here t next (Ok tt) → Leads start before (64 - (i + 1)) next after
    unfolding TakesBundle
    leads_on taken = λ ending goes.
        let left : 64 - (i + 1) ≡ 63 - i = omega arith in
        let rest : Goes (63 - i) next after ending = subst (λ n. Goes n next after ending) left goes in
        let one : Goes (suc (63 - i)) here now ending = (after, Ok (Some t), is_next, (next, Ok tt, taken, rest)) in
        leads ending (subst (λ n. Goes n here now ending) (one_left i low) one)

-- a fault of a file isn't one of a write
pub read_unwritten : (refused : ReadFault) → is_write (read_fault refused) ≡ false
read_unwritten read.Short = refl
read_unwritten _ = refl
