-- Why a table isn't believed.
use Rattle.std.proofs.Common.{◌≡◌, ℕ, None, Some, sym, ◌∙◌}
use Rattle.morris_board.specs.Boards.{Shape}
use Rattle.morris_index.specs.Pairs.{counts}
use Rattle.morris_pairs.specs.Shelves.{Stored, first_missing}
use Rattle.morris_pairs.specs.Tables.{Table}
use Rattle.morris_jobs.specs.declared.fault.Fault.{Fault}
use Rattle.morris_jobs.specs.declared.fault.Fault.TheVariants as fault
use Rattle.morris_jobs.specs.Inputs.{IsUnfit}
use Rattle.morris_commands.specs.Build.{IsUnbuiltBefore, RestsOnTooDeep}
use Rattle.morris_commands.specs.Verify.{IsUnverified}

-- the pairs below aren't built
pub unbelieved_before : (board : Shape) (t : Table) (blocks : ℕ) (e : Fault) → IsUnbuiltBefore board t.pair blocks e → IsUnverified board t blocks e
unbelieved_before board t blocks (fault.Differs index) h = absurd h
unbelieved_before board t blocks _ h = h

-- or they are, so that none is missing, and the table isn't right over theirs
pub unfit : (board : Shape) (t : Table) (shelf : Stored) (blocks : ℕ) (e : Fault) → ¬ RestsOnTooDeep board t.pair → first_missing shelf t.pair ≡ None
    → IsUnfit board shelf t e → IsUnverified board t blocks e
unfit board t shelf blocks (fault.Needs greater lesser) within ready h =
    let bad : None ≡ Some (counts greater lesser) = sym ready ∙ h in
    cc
unfit board t shelf blocks (fault.Differs index) within ready h = (within, h.1)
unfit board t shelf blocks _ within ready h = absurd h
