-- Which faults are those of a write.
use Rattle.std.proofs.Common.{◌≡◌, ℕ, Result, Err, true, false, inl, inr, refl, subst}
use Rattle.std.proofs.lemmas.Bool.{cases_Bool}
use Rattle.morris_jobs.specs.Faults.{CountsWrites, is_write}
use Rattle.morris_jobs.specs.declared.fault.Fault.{Fault}
use Rattle.morris_jobs.specs.declared.fault.Fault.TheVariants as fault

-- a fault of a write says how many bytes went out; the cases are gone through here alone
written : (f : Fault) → is_write f ≡ true → (sent : ℕ) × (f ≡ fault.Write sent)
written (fault.Write sent) is = (sent, refl)
written _ is = cc

-- what doesn't hold of one of a write holds of no such fault
pub unwritten : (P : Fault → Type 0) → ((sent : ℕ) → P (fault.Write sent) → ⊥) → (f : Fault) → P f → is_write f ≡ false
unwritten P none f holds = elim (cases_Bool (is_write f)) [
  | inl is ↦ let write = written f is in absurd (none write.0 (subst P write.1 holds))
  | inr other ↦ other
]

-- the sink has failed as often where another fault is answered
pub counted_refused : {T : Type 0} (n : ℕ) (answer : Result T Fault) (f : Fault) → answer ≡ Err f → is_write f ≡ false → CountsWrites n n answer
counted_refused n answer f is unwritten = rw (is, unwritten) refl
