-- Why there is no answer.
use Rattle.std.specs.Prelude.{◌≡◌, ℕ, ◌+◌, Bool, true, false, Option, Some, None, Result, Ok, Err, if◌then◌else◌}
use Rattle.morris_index.specs.Pairs.{Counts}
use Rattle.morris_probe.specs.declared.fault.ProbeFault.{ProbeFault}
use Rattle.morris_probe.specs.declared.fault.ProbeFault.TheVariants.{Needs, Memory, Write}

-- the pair whose table is wanted, if that is the reason
abbrev pub needs_in : {B : Type 0} → ProbeFault B → Option Counts
needs_in (Needs needs) = Some needs.0
needs_in Memory = None
needs_in (Write sent) = None

-- whether the reason is a write that failed
abbrev pub is_write : {B : Type 0} → ProbeFault B → Bool
is_write (Needs needs) = false
is_write Memory = false
is_write (Write sent) = true

-- the failures of the sink rose by one where a write failed, and not otherwise
abbrev pub CountsWrites : {T B : Type 0} → ℕ → ℕ → Result T (ProbeFault B) → Type 0
CountsWrites old new (Ok done) = new ≡ old
CountsWrites old new (Err fault) = new ≡ (if is_write fault then old + 1 else old)
