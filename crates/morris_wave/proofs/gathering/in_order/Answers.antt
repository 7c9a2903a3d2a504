use Rattle.std.proofs.Common.{◌≡◌, ℕ, ◌+◌, List, sym, ap, ◌∙◌, subst, arith}
use Rattle.morris_wave.specs.Blocks.{BlockState}
use Rattle.morris_wave.specs.Gathering.{Fits}
use Rattle.morris_wave.proofs.Gathered.{KnownTo, known_none, known_more, known_all}
use Rattle.morris_wave.proofs.gathering.in_order.Goals as goal

pub offset_bounds-blocks-place : goal.offset_bounds-blocks-place
offset_bounds-blocks-place g c = omega (arith, (c.requires.places.at c.loop-number.number c.in-Some.place c.in-Some.is).0)

pub bounds-blocks-place : goal.bounds-blocks-place
bounds-blocks-place g c = (c.requires.places.at c.loop-number.number c.in-Some.place c.in-Some.is).0

pub loop-number-preserved : goal.loop-number-preserved
loop-number-preserved g c =
    let net = g.N.Levels.net in
    let cut = c.args.cut.now in
    let k = c.loop-number.number in
    let s : BlockState = c.index-blocks-place.result in
    let at = c.requires.places.at k c.in-Some.place c.in-Some.is in
    let fit : Fits c.args.level c.args.wave cut s = subst (λ (t : BlockState). Fits c.args.level c.args.wave cut t) (sym c.index-blocks-place.is) (c.requires.fit c.in-Some.place s at.0) in
    let number : s.number ≡ k = ap (λ (t : BlockState). t.number) c.index-blocks-place.is ∙ at.1 s in
    let made = c.entries_of.ensures in
    subst (λ (xs : List ℕ). KnownTo (net c.args.level) c.args.wave cut (k + 1) xs) (sym c.in_ok-add_to.ensures)
    (known_more net c.args.level c.args.wave cut k s c.loop-number.codes.items c.entries_of.result.now (omega (arith, c.blocks-number-end.ensures.some, c.blocks-number-end.ensures.count)) fit number c.loop-number.invariant
    made.cut made.size made.wave made.len made.codes)

pub returns : goal.returns
returns g c =
    known_all (g.N.Levels.net c.args.level) c.args.wave c.args.cut.now c.loop-number.number c.loop-number.codes (omega (arith, c.blocks-number-end.ensures.some, c.blocks-number-end.ensures.count))
    (omega (arith, c.loop-number-test.false, c.loop-number.auto.number-end, c.blocks-number-end.ensures.count)) c.loop-number.invariant

pub loop-number-init : goal.loop-number-init
loop-number-init g c = known_none (g.N.Levels.net c.args.level) c.args.wave c.args.cut.now c.in_ok-codes.codes.items c.in_ok-codes.ensures.items
