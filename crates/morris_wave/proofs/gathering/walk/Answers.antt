use Rattle.std.proofs.Common.{ℕ, ◌+◌, Some, None, is_some, set, slice_index_or, refl, sym, ◌∙◌, subst, arith}
use Rattle.morris_wave.specs.Blocks.{BlockState}
use Rattle.morris_wave.proofs.Gathered.{PlacesTo, no_places, place_more, all_places, walk_step, walk_all}
use Rattle.morris_wave.proofs.gathering.walk.Goals as goal

pub loop-place-init : goal.loop-place-init
loop-place-init g c = (no_places c.args.blocks.now, refl)

pub returns-in-Some-clause-err : goal.returns-in-Some-clause-err
returns-in-Some-clause-err g c =
    let inv = c.loop-place.invariant in
    let s : BlockState = c.index-blocks-place.result in
    inv.1
    ∙ walk_step c.args.level c.args.wave c.args.cut.now c.args.blocks.now c.loop-place.place s (is_some (slice_index_or c.loop-place.places s.number None)) (Some c.in-Some.fault) (omega arith)
    c.index-blocks-place.is (inv.0.came s.number c.complaint.ensures.number) (sym c.complaint.ensures.value ∙ c.in-Some.is)

pub loop-place-preserved : goal.loop-place-preserved
loop-place-preserved g c =
    let inv = c.loop-place.invariant in
    let s : BlockState = c.index-blocks-place.result in
    let places = c.loop-place.places in (
      subst (λ (n : ℕ). PlacesTo c.args.blocks.now (c.loop-place.place + 1) (set places n (Some c.loop-place.place))) (sym c.number.ensures)
          (place_more c.args.blocks.now c.loop-place.place s places (omega arith) c.index-blocks-place.is c.complaint.ensures.number inv.0),
      inv.1
          ∙ walk_step c.args.level c.args.wave c.args.cut.now c.args.blocks.now c.loop-place.place s (is_some (slice_index_or places s.number None)) None (omega arith)
          c.index-blocks-place.is (inv.0.came s.number c.complaint.ensures.number) (sym c.complaint.ensures.value ∙ c.in_default.is),
    )

pub returns-clause-ok : goal.returns-clause-ok
returns-clause-ok g c = all_places c.args.blocks.now c.loop-place.place c.loop-place.places (omega (arith, c.loop-place-test.false, c.loop-place.auto.place-end)) c.loop-place.invariant.0

pub returns-clause-walked : goal.returns-clause-walked
returns-clause-walked g c = c.loop-place.invariant.1 ∙ walk_all c.args.level c.args.wave c.args.cut.now c.args.blocks.now c.loop-place.place (omega (arith, c.loop-place-test.false))
