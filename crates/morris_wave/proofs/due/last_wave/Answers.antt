use Rattle.std.proofs.Common.{◌≤◌, ℕ, slice_index, ap, ⊎_elim, arith}
use Rattle.std.specs.Ordering.{nat_cmp, ord_max}
use Rattle.std.proofs.lemmas.Bool.{cases_eq}
use Rattle.std.proofs.lemmas.Bool.Decides.{nat_tests}
use Rattle.morris_wave.proofs.due.last_wave.Goals as goal

-- the greater of two numbers is at least as great as each
at_least : (a b : ℕ) → (a ≤ ord_max nat_cmp a b) × (b ≤ ord_max nat_cmp a b)
at_least a b = (grind (arith, nat_tests), grind (arith, nat_tests))

pub loop-wave-preserved : goal.loop-wave-preserved
loop-wave-preserved c = λ k l.
    let waves = c.args.waves.now in
    let both = at_least c.loop-wave.last (slice_index waves c.loop-wave.wave-index) in
    ⊎_elim
    (λ e. omega (arith, ap (slice_index waves) e, both.1, c.max-last.ensures))
    (λ e. omega (arith, c.loop-wave.invariant k (omega (arith, l, e)), both.0, c.max-last.ensures))
    (cases_eq k c.loop-wave.wave-index)
