use Rattle.std.proofs.Common.{◌≡◌, ℕ, ◌<◌, length, slice_index_or, subst, ⊎_elim, arith}
use Rattle.std.proofs.lemmas.Bool.{cases_eq}
use Rattle.std.proofs.lemmas.List.{get_or_read}
use Rattle.morris_wave.specs.Blocks.{BlockState, IsSettled}
use Rattle.morris_workers.proofs.solver.first_unsettled.Goals as goal

pub loop-place-preserved : goal.loop-place-preserved
loop-place-preserved g c =
    let blocks = c.args.blocks.now in
    let place = c.loop-place.place in
    let s : BlockState = c.index-blocks-place.result in
    let IsFit : BlockState → Type 0 = λ t. IsSettled (g.N.Levels.net t.level) t × (t.number < length blocks) in
    let inside : place < length blocks = omega (arith, c.loop-place-test.true) in
    let fit : IsFit s = (c.settled.ensures.settled.0 c.if-not-settled.false, omega (arith, inside, c.number.ensures, c.if-number-place.false)) in
    λ k d l. ⊎_elim
    (λ e. subst (λ (p : ℕ). IsFit (slice_index_or blocks p d)) e (subst IsFit (get_or_read blocks place s inside c.index-blocks-place.is d) fit))
    (λ e. c.loop-place.invariant k d (omega (arith, l, e)))
    (cases_eq place k)
