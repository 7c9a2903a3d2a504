use Rattle.std.proofs.Common.{◌≡◌, ℕ, ◌<◌, [], ◌∷◌, ◌++◌, List, length, set, take, slice_index, refl, sym, ap, subst, ◌∙◌, arith, ◌+◌}
use Rattle.std.proofs.lemmas.List.{length-map}
use Rattle.morris_wave.specs.Blocks.{IsIn, block_of}
use Rattle.morris_wave.specs.Lists.{contents, list_at}
use Rattle.morris_wave.specs.Scattering.{AreSorted, Deals}
use Rattle.morris_wave.proofs.Dealing.{deal_sorted, deal_more}
use Rattle.morris_wave.proofs.scattering.deal.Goals as goal

pub loop-node-preserved : goal.loop-node-preserved
loop-node-preserved g c =
    let inv = c.loop-node.invariant in
    let cut = c.args.finder.now.cut in
    let nodes = c.args.nodes.now in
    let node = slice_index nodes c.loop-node.node-index in
    let old = contents g.L.NodeList.items c.args.lists.now.items in
    let mid = contents g.L.NodeList.items c.loop-node.lists.items in
    let put : contents g.L.NodeList.items c.put_into.new.lists.items ≡ set mid (block_of cut node) (list_at mid (block_of cut node) ++ node ∷ []) =
    c.in_ok-put_into.ensures.put ∙ ap (λ (t : ℕ). set mid t (list_at mid t ++ node ∷ [])) c.find.ensures.value in
    let many : length mid ≡ length c.loop-node.lists.items = length-map c.loop-node.lists.items g.L.NodeList.items in
    let within : block_of cut node < length mid =
    omega (arith, c.find.ensures.value, c.find.ensures.within, many, inv.0, c.requires.count, c.args.lists.now.ok.0) in
    let holds = subst (λ (b : ℕ). IsIn cut b node) c.find.ensures.value c.find.ensures.holds in (
      omega (arith, c.put_into.ensures.len, c.put_into.new.lists.ok.0, c.loop-node.lists.ok.0, inv.0),
      subst (λ (ls : List (List ℕ)). AreSorted cut ls) (sym put) (deal_sorted cut nodes c.loop-node.node-index node (omega arith) refl old mid within holds inv.1),
      subst (λ (ls : List (List ℕ)). Deals cut old ls (take (c.loop-node.node-index + 1) nodes)) (sym put)
          (deal_more cut nodes c.loop-node.node-index node (omega arith) refl old mid within holds inv.2),
    )
