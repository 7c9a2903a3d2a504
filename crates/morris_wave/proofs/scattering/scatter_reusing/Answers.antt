use Rattle.std.proofs.Common.{◌≡◌, ℕ, ◌<◌, List, [], ◌∷◌, ◌++◌, length, slice_index_or, sym, ap, ◌∙◌, subst, arith, append_assoc, vec_len}
use Rattle.std.proofs.lemmas.List.{length-append, length_push}
use Rattle.std.specs.List.{All}
use Rattle.morris_wave.specs.Batches.{FreshState, BatchState, BatchHolds}
use Rattle.morris_wave.specs.Lists.{contents}
use Rattle.morris_wave.specs.Scattering.{LeadTo, batch_of, IsBatchOf}
use Rattle.morris_wave.proofs.Batching.{fresh_inside, next_batch, sealed, batches_more}
use Rattle.morris_wave.proofs.scattering.scatter_reusing.Goals as goal

pub deal_behind-requires-clause-inside : goal.deal_behind-requires-clause-inside
deal_behind-requires-clause-inside g c κs within =
    let inside = c.fresh.inside in
    let f : FreshState = record { level = inside.level; cut = inside.cut; wave = inside.wave; source = inside.source; low = inside.low; high = inside.high; nodes = inside.nodes.items } in
    subst (λ (xs : List ℕ). All (λ j. j < inside.cut.size) xs) (sym c.deref.ensures.value) (fresh_inside (g.N.Levels.net inside.level) f c.fresh.invariant)

pub seal-requires-after_bounds : goal.seal-requires-after_bounds
seal-requires-after_bounds g c κs within =
    let inside = c.fresh.inside in
    let f : FreshState = record { level = inside.level; cut = inside.cut; wave = inside.wave; source = inside.source; low = inside.low; high = inside.high; nodes = inside.nodes.items } in
    let net = g.N.Levels.net inside.level in
    let lists = c.deal_behind.new.lists.items in
    let inv = c.loop-nodes.invariant in
    let same : g.G.Graph.level c.args.graph.now ≡ inside.level = c.requires.level ∙ sym (ap (λ (t : FreshState). t.level) c.fresh.view_is) in
    let lead : LeadTo net inside.cut (contents g.L.NodeList.items lists) inside.nodes.items =
    subst (λ (l : ℕ). LeadTo (g.N.Levels.net l) inside.cut (contents g.L.NodeList.items lists) inside.nodes.items) same
    (subst (λ (xs : List ℕ). LeadTo (g.N.Levels.net (g.G.Graph.level c.args.graph.now)) inside.cut (contents g.L.NodeList.items lists) xs) c.deref.ensures.value c.in_ok-deal_behind.ensures.behind) in
    let split : lists ≡ c.loop-nodes.yielded ++ c.in-Some.nodes ∷ c.next.new.self.rest.items =
    sym c.into_iter-nodes-iterator.ensures.into_iter_gives.0
    ∙ (inv.1 ∙ ap (λ (xs : List _). c.loop-nodes.yielded ++ xs) c.in-Some.ensures.steps.0) in
    let target : c.len-target.result ≡ length c.loop-nodes.yielded = omega (arith, c.len-target.ensures, c.loop-nodes.batches.ok.0, inv.0) in
    subst (λ (t : FreshState). BatchHolds (g.N.Levels.net t.level) (batch_of t c.len-target.result (g.L.NodeList.items c.in-Some.nodes))) c.fresh.view_is
    (next_batch g.L.NodeList.items net (g.N.Levels.lawful inside.level) f c.fresh.invariant lists c.loop-nodes.yielded c.next.new.self.rest.items c.in-Some.nodes c.len-target.result
    (omega (arith, c.in_ok-deal_behind.ensures.count, c.deal_behind.new.lists.ok.0)) split target c.in_ok-deal_behind.ensures.sorted lead)

pub loop-nodes-preserved : goal.loop-nodes-preserved
loop-nodes-preserved g c =
    let inv = c.loop-nodes.invariant in
    let net = g.N.Levels.net c.args.fresh.now.level in
    let batches = c.loop-nodes.batches.items in
    let pushed : c.push.new.self.items ≡ batches ++ c.seal.result ∷ [] = c.in_ok-push.ensures.items in
    let target : c.len-target.result ≡ length batches = omega (arith, c.len-target.ensures, c.loop-nodes.batches.ok.0) in
    let batch : IsBatchOf net c.args.fresh.now (length batches) c.seal.result =
    subst (λ (t : ℕ). IsBatchOf net c.args.fresh.now t c.seal.result) target
    (sealed net c.args.fresh.now c.len-target.result (g.L.NodeList.items c.in-Some.nodes) c.seal.result c.seal.ensures.made c.seal.ensures.holds) in (
      omega (arith, ap length pushed, length_push batches c.seal.result, length_push c.loop-nodes.yielded c.in-Some.nodes, inv.0),
      inv.1
          ∙ (ap (λ (xs : List _). c.loop-nodes.yielded ++ xs) c.in-Some.ensures.steps.0
          ∙ sym (append_assoc c.loop-nodes.yielded (c.in-Some.nodes ∷ []) c.next.new.self.rest.items)),
      subst (λ (bs : List BatchState). (t : ℕ) (d : BatchState) → t < length bs → IsBatchOf net c.args.fresh.now t (slice_index_or bs t d)) (sym pushed)
          (batches_more net c.args.fresh.now batches c.seal.result inv.2 batch),
    )

pub returns-clause-count : goal.returns-clause-count
returns-clause-count g c =
    let inv = c.loop-nodes.invariant in
    let rest = c.loop-nodes.nodes-iterator.rest in
    let lists = c.deal_behind.new.lists in
    let none : length rest.items ≡ 0 = omega (arith, c.in-None.ensures.steps.0, rest.ok.0) in
    omega (
      arith,
      ap length inv.1,
      length-append c.loop-nodes.yielded rest.items,
      none,
      ap length c.into_iter-nodes-iterator.ensures.into_iter_gives.0,
      lists.ok.0,
      inv.0,
      c.loop-nodes.batches.ok.0,
      c.in_ok-deal_behind.ensures.count,
      ap (λ (t : FreshState). t.cut.blocks) c.fresh.view_is,
    )

pub returns-clause-batches : goal.returns-clause-batches
returns-clause-batches g c = λ t d l.
    let count : vec_len c.loop-nodes.batches ≡ c.args.fresh.now.cut.blocks = returns-clause-count g c in
    c.loop-nodes.invariant.2 t d (omega (arith, count, l, c.loop-nodes.batches.ok.0))
