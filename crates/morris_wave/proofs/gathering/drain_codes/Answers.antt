use Rattle.std.proofs.Common.{◌≡◌, ℕ, ◌+◌, ◌<◌, [], ◌∷◌, ◌++◌, List, length, get_or, refl, sym, ap, ◌∙◌, subst, arith, append_assoc}
use Rattle.std.proofs.lemmas.List.{length-append, length_push, get_or_at}
use Rattle.morris_wave.specs.Blocks.{BlockState}
use Rattle.morris_wave.specs.Gathering.{Fits}
use Rattle.morris_wave.proofs.Gathered.{KnownTo, known_none, known_more, known_all}
use Rattle.morris_wave.proofs.gathering.drain_codes.Goals as goal

pub loop-block-preserved : goal.loop-block-preserved
loop-block-preserved g c =
    let inv = c.loop-block.invariant in
    let net = g.N.Levels.net in
    let cut = c.args.cut.now in
    let before : List BlockState = c.loop-block.yielded in
    let k = length before in
    let s : BlockState = c.in-Some.block in
    let rest : List BlockState = c.next.new.self.rest.items in
    let split : c.args.blocks.items ≡ before ++ s ∷ rest =
    sym c.into_iter-block-iterator.ensures.into_iter_gives.0 ∙ (inv.0 ∙ ap (λ (xs : List BlockState). before ++ xs) c.in-Some.ensures.steps.0) in
    let inside : k < length c.args.blocks.items = omega (arith, ap length split, length-append before (s ∷ rest)) in
    let at : (d : BlockState) → get_or c.args.blocks.items k d ≡ s = λ d. ap (λ (xs : List BlockState). get_or xs k d) split ∙ get_or_at before s rest d k refl in
    let fit : Fits c.args.level c.args.wave cut s = subst (λ (t : BlockState). Fits c.args.level c.args.wave cut t) (at s) (c.requires.fit k s inside) in
    let number : s.number ≡ k = ap (λ (t : BlockState). t.number) (sym (at s)) ∙ c.requires.order k s inside in
    let made = c.entries_of.ensures in
    let next : k + 1 ≡ length (before ++ s ∷ []) = omega (arith, length_push before s) in (
      inv.0
          ∙ (ap (λ (xs : List BlockState). before ++ xs) c.in-Some.ensures.steps.0
          ∙ sym (append_assoc before (s ∷ []) rest)),
      subst (λ (n : ℕ). KnownTo (net c.args.level) c.args.wave cut n c.add_to.new.list.items) next
          (subst (λ (xs : List ℕ). KnownTo (net c.args.level) c.args.wave cut (k + 1) xs) (sym c.in_ok-add_to.ensures)
          (known_more net c.args.level c.args.wave cut k s c.loop-block.codes.items c.entries_of.result.now (omega (arith, c.blocks-blocks.ensures.some, c.blocks-blocks.ensures.count)) fit number inv.1
          made.cut made.size made.wave made.len made.codes)),
    )

pub returns : goal.returns
returns g c =
    let inv = c.loop-block.invariant in
    let before : List BlockState = c.loop-block.yielded in
    let none : length c.loop-block.block-iterator.rest.items ≡ 0 = omega (arith, c.in-None.ensures.steps.0, c.loop-block.block-iterator.rest.ok.0) in
    let all : length before ≡ c.args.cut.now.blocks =
    omega (arith, ap length inv.0, length-append before c.loop-block.block-iterator.rest.items, none, ap length c.into_iter-block-iterator.ensures.into_iter_gives.0, c.requires.count, c.args.blocks.ok.0) in
    known_all (g.N.Levels.net c.args.level) c.args.wave c.args.cut.now (length before) c.loop-block.codes (omega (arith, c.blocks-blocks.ensures.some, c.blocks-blocks.ensures.count)) all inv.1

pub loop-block-init : goal.loop-block-init
loop-block-init g c = (refl, known_none (g.N.Levels.net c.args.level) c.args.wave c.args.cut.now c.in_ok-codes.codes.items c.in_ok-codes.ensures.items)
