use Rattle.std.proofs.Common.{◌≡◌, ℕ, ◌<◌, length, slice_index_or, sym, ap, ◌∙◌, subst, ⊎_elim, arith}
use Rattle.std.proofs.lemmas.Bool.{cases_eq, false≢true}
use Rattle.std.proofs.lemmas.List.{get_or_read}
use Rattle.morris_wave.specs.Blocks.{BlockState}
use Rattle.morris_wave.proofs.gathering.are_in_order.Goals as goal

pub loop-place-preserved : goal.loop-place-preserved
loop-place-preserved g c =
    let place = c.loop-place.place in
    let s : BlockState = c.index-blocks-place.result in
    let inside : place < length c.args.blocks.now = omega (arith, c.loop-place-test.true) in
    let number : s.number ≡ place = omega (arith, c.number.ensures, c.if-number-place.false) in
    λ k d l.
    ⊎_elim
    (λ e. subst (λ (p : ℕ). (slice_index_or c.args.blocks.now p d).number ≡ p) e
    (ap (λ (t : BlockState). t.number) (sym (get_or_read c.args.blocks.now place s inside c.index-blocks-place.is d)) ∙ number))
    (λ e. c.loop-place.invariant k d (omega (arith, l, e)))
    (cases_eq place k)

pub returns-then-number-place : goal.returns-then-number-place
returns-then-number-place g c = λ e. absurd (false≢true e)

pub returns : goal.returns
returns g c = λ _ k d l. c.loop-place.invariant k d (omega (arith, l, c.loop-place-test.false, c.loop-place.auto.place-end))
