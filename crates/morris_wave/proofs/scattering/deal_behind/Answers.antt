use Rattle.std.proofs.Common.{◌≡◌, ◌<◌, ℕ, [], ◌++◌, List, ap, sym, subst, ◌∙◌, append_assoc, arith}
use Rattle.std.specs.List.{All}
use Rattle.std.specs.Slice.Iter.{chunks_rest, chunks_size}
use Rattle.morris_wave.specs.Nets.{times}
use Rattle.morris_wave.specs.Blocks.{Parts, block_of}
use Rattle.morris_wave.specs.Lists.{contents}
use Rattle.morris_wave.specs.Scattering.{AreSorted, Deals}
use Rattle.morris_wave.proofs.Dealing.{none_sorted}
use Rattle.morris_wave.proofs.Batching.{lead_append}
use Rattle.morris_wave.proofs.Tests.{All_before, All_after}
use Rattle.morris_wave.proofs.scattering.deal_behind.Goals as goal

pub loop-piece-init : goal.loop-piece-init
loop-piece-init g c =
    let made = c.chunks-piece-items.ensures in
    let iterator = c.into_iter-piece-iterator.ensures.into_iter_gives in
    let lists = contents g.L.NodeList.items c.args.lists.now.items in (
      omega (arith, ap chunks_size iterator, made.size),
      tt,
      omega (arith, c.requires.count, c.args.lists.now.ok.0),
      none_sorted c.args.cut.now lists c.requires.empty,
      [],
      sym (ap chunks_rest iterator ∙ made.rest),
      λ i l. ap (times i) (c.requires.empty (block_of c.args.cut.now i)),
    )

pub back_from-requires : goal.back_from-requires
back_from-requires g c =
    let inv = c.loop-piece.invariant in
    let size = (g.G.Name.Levels.net (g.G.Graph.level c.args.graph.now)).size in
    let within : ℕ → Type 0 = λ i. i < size in
    let rest = chunks_rest c.next.new.self in
    let all : All within (inv.4 ++ (c.in-Some.piece.now ++ rest)) =
    subst (λ (xs : List ℕ). All within xs) (inv.5 ∙ ap (λ (xs : List ℕ). inv.4 ++ xs) c.in-Some.ensures.steps.1.0) (λ k d l. omega (arith, c.requires.inside k d l, c.requires.size)) in
    All_before within c.in-Some.piece.now rest (All_after within inv.4 (c.in-Some.piece.now ++ rest) all)

pub deal-requires-clause-small : goal.deal-requires-clause-small
deal-requires-clause-small g c = omega (arith, ap (λ (p : Parts). p.size) c.new-finder.ensures, c.requires.small)

pub deal-requires-clause-count : goal.deal-requires-clause-count
deal-requires-clause-count g c = omega (arith, ap (λ (p : Parts). p.blocks) c.new-finder.ensures, c.loop-piece.invariant.2, c.loop-piece.lists.ok.0)

pub deal-requires-clause-inside : goal.deal-requires-clause-inside
deal-requires-clause-inside g c =
    subst (λ (xs : List ℕ). All (λ i. i < c.new-finder.result.cut.size) xs) (sym c.deref.ensures.value)
    (λ k d l. omega (arith, c.in_ok-back_from.ensures.nodes k d l, c.requires.size, ap (λ (p : Parts). p.size) c.new-finder.ensures))

pub deal-requires-clause-sorted : goal.deal-requires-clause-sorted
deal-requires-clause-sorted g c =
    subst (λ (p : Parts). AreSorted p (contents g.L.NodeList.items c.loop-piece.lists.items)) (sym c.new-finder.ensures) c.loop-piece.invariant.3

pub loop-piece-preserved : goal.loop-piece-preserved
loop-piece-preserved g c =
    let net = g.G.Name.Levels.net (g.G.Graph.level c.args.graph.now) in
    let cut = c.args.cut.now in
    let inv = c.loop-piece.invariant in
    let done = inv.4 in
    let piece = c.in-Some.piece.now in
    let before = c.back_from.new.out.items in
    let old = contents g.L.NodeList.items c.loop-piece.lists.items in
    let new = contents g.L.NodeList.items c.deal.new.lists.items in
    let sorted : AreSorted cut new = subst (λ (p : Parts). AreSorted p new) c.new-finder.ensures c.in_ok-deal.ensures.sorted in
    let dealt : Deals cut old new before =
    subst (λ (xs : List ℕ). Deals cut old new xs) c.deref.ensures.value
    (subst (λ (p : Parts). Deals p old new c.deref.result.now) c.new-finder.ensures c.in_ok-deal.ensures.dealt) in
    let size : net.size ≡ cut.size = c.requires.size in (
      omega (arith, c.in-Some.ensures.steps.0, inv.0),
      tt,
      omega (arith, c.deal.ensures.len, c.deal.new.lists.ok.0, c.loop-piece.lists.ok.0, inv.2),
      sorted,
      done ++ piece,
      inv.5 ∙ (ap (λ (xs : List ℕ). done ++ xs) c.in-Some.ensures.steps.1.0 ∙ sym (append_assoc done piece (chunks_rest c.next.new.self))),
      lead_append net cut done piece old new before (λ i l. c.in_ok-back_from.ensures.times i (omega arith)) inv.6 dealt,
    )

pub returns-clause-count : goal.returns-clause-count
returns-clause-count g c = omega (arith, c.loop-piece.invariant.2, c.loop-piece.lists.ok.0)

pub returns-clause-sorted : goal.returns-clause-sorted
returns-clause-sorted g c = c.loop-piece.invariant.3
