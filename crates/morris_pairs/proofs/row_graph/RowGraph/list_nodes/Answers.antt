use Rattle.std.proofs.Common.{◌≡◌, ℕ, ◌+◌, ◌<◌, ◌^◌, true, length, refl, sym, ap, subst, ◌∙◌, inl, inr, arith}
use Rattle.std.proofs.lemmas.Bool.{cases_eq, eqb-true}
use Rattle.std.proofs.lemmas.Grind.{get_or-set_at}
use Rattle.std.proofs.lemmas.List.{length-set, get_or-set_other}
use Rattle.morris_board.specs.Boards.{Shape}
use Rattle.morris_index.specs.ClassPairs.{canonical_form, class_index_of}
use Rattle.morris_index.specs.Pairs.{is_of}
use Rattle.morris_index.proofs.ClassPairLaws.{canonical_itself}
use Rattle.morris_pairs.specs.Orders.{Rows, row_index_of}
use Rattle.morris_pairs.specs.PairNets.{level_in, net_at}
use Rattle.morris_pairs.specs.RowGraphs.{IsRowGraph}
use Rattle.morris_pairs.proofs.RowNodeLaws.{second_second_half}
use Rattle.morris_pairs.proofs.row_graph.RowGraph.list_nodes.Goals as goal

pub loop-place-init : goal.loop-place-init
loop-place-init g c = record {
  len = refl;
  listed = λ s h of own k low at. absurd (omega (arith, low));
  below = λ k low. absurd (omega (arith, low));
}

pub second_half_node-requires-clause-counts : goal.second_half_node-requires-clause-counts
second_half_node-requires-clause-counts g c = subst (λ d. is_of d c.position.result ≡ true) c.requires.pair c.position.ensures.counts

pub second_half_node-requires-clause-second_half : goal.second_half_node-requires-clause-second_half
second_half_node-requires-clause-second_half g c =
    let here = subst (λ d. IsRowGraph g.B.Geometry.shape g.B.Geometry.POINTS d c.self.inside.classes c.self.inside.sets c.self.inside.moves) c.self.view_is c.self.invariant in
    let b : Shape = g.B.Geometry.shape in
    let n : ℕ = g.B.Geometry.POINTS in
    let few = g.met.B.Geometry.few in
    let points = g.met.B.Geometry.point_count in
    let y = g.met.B.Geometry.has_symmetries in
    let at : class_index_of b n c.args.self.now c.position.result ≡ c.args.entries.now.first + c.loop-place.place =
    subst (λ d. class_index_of b n d c.position.result ≡ c.args.entries.now.first + c.loop-place.place) c.requires.pair c.position.ensures.index in
    second_second_half b n few points y c.args.self.now here.lawful here.two c.position.result c.position.ensures.lawful
    (subst (λ d. is_of d c.position.result ≡ true) c.requires.pair c.position.ensures.counts)
    (omega (arith, at, c.requires.second_half))

pub loop-place-preserved : goal.loop-place-preserved
loop-place-preserved g c =
    let b : Shape = g.B.Geometry.shape in
    let n : ℕ = g.B.Geometry.POINTS in
    let few = g.met.B.Geometry.few in
    let points = g.met.B.Geometry.point_count in
    let y = g.met.B.Geometry.has_symmetries in
    let inv = c.loop-place.invariant in
    let place : ℕ = c.loop-place.place in
    let node : ℕ = c.second_half_node.result in
    let size : ℕ = (net_at b (level_in Rows c.args.self.now)).size in
    let inside : place < length c.loop-place.nodes = omega (arith, c.min-many.ensures, c.loop-place-test.true, inv.len) in
    record {
      len = length-set c.loop-place.nodes place node ∙ inv.len;
      listed = λ s h of own k low at. elim (cases_eq k place) [
        | inl e ↦
            let itself : canonical_form b s ≡ s =
            canonical_itself b n few points y s.own s.other (subst (λ m. s.own < 2 ^ m) points h.stones.own_within) (subst (λ m. s.other < 2 ^ m) points h.stones.other_within)
            (eqb-true _ _ own) in
            let there : class_index_of b n c.args.entries.now.pair s ≡ c.args.entries.now.first + place =
            subst (λ d. class_index_of b n d s ≡ c.args.entries.now.first + place) (sym c.requires.pair) (at ∙ ap (λ i. c.args.entries.now.first + i) e) in
            let is : c.position.result ≡ s = c.position.ensures.canonical_form s h (subst (λ d. is_of d s ≡ true) (sym c.requires.pair) of) there ∙ itself in
            get_or-set_at c.loop-place.nodes place k node 0 e inside ∙ (c.second_half_node.ensures.value ∙ ap (row_index_of b n c.args.self.now) is)
        | inr d ↦ get_or-set_other c.loop-place.nodes place k node 0 d ∙ inv.listed s h of own k (omega (arith, low, d)) at
      ];
      below = λ k low. elim (cases_eq k place) [
        | inl e ↦ subst (λ x. x < size) (sym (get_or-set_at c.loop-place.nodes place k node 0 e inside)) c.second_half_node.ensures.below
        | inr d ↦ subst (λ x. x < size) (sym (get_or-set_other c.loop-place.nodes place k node 0 d)) (inv.below k (omega (arith, low, d)))
      ];
    }
