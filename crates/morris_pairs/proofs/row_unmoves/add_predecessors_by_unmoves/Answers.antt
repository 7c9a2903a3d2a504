use Rattle.std.proofs.Common.{◌≡◌, ℕ, ◌++◌, true, false, not, List, map, take, sym, ap, subst, ◌∙◌, arith}
use Rattle.std.proofs.lemmas.List.{append-nil, take_all}
use Rattle.morris_board.specs.Boards.{Shape}
use Rattle.morris_board.specs.Sets.{has, count_of}
use Rattle.morris_board.specs.Positions.{Sides, sides, IsPosition}
use Rattle.morris_board.specs.Symmetries.{image_of}
use Rattle.morris_index.specs.ClassPairs.{class_index_of}
use Rattle.morris_index.specs.ByOpponent.{swap_sides}
use Rattle.morris_index.specs.Pairs.{Counts}
use Rattle.morris_index.specs.Standings.{IsCanonicalStanding}
use Rattle.morris_pairs.specs.declared.row_unmoves.RowUnmove.{RowUnmove}
use Rattle.morris_pairs.specs.RowUnmoves.{predecessor_by, nodes_by, unmove_of, IsRowUnmove}
use Rattle.morris_pairs.proofs.RowStepLaws.{nodes_none, nodes_more, nodes_same, added_by_unmoves, step_stands, image_lawful, step_node}
use Rattle.morris_pairs.proofs.row_unmoves.add_predecessors_by_unmoves.Goals as goal
use Rattle.morris_pairs.proofs.row_unmoves.add_predecessors_by_unmoves.Goals.{then-not-has+in_ok-push, else-not-has}

pub loop-row_unmove-init : goal.loop-row_unmove-init
loop-row_unmove-init g c = record {
  listed = sym (ap (λ (xs : List ℕ). c.args.out.now.items ++ xs) (nodes_none g.B.Geometry.shape g.B.Geometry.POINTS c.args.classes.now (swap_sides c.args.position.now))
      ∙ append-nil c.args.out.now.items);
}

pub entry_at-node-requires-clause-stands : goal.entry_at-node-requires-clause-stands
entry_at-node-requires-clause-stands g c =
    let b : Shape = g.B.Geometry.shape in
    let n : ℕ = g.B.Geometry.POINTS in
    let of : Counts = c.args.classes.now in
    let s : Sides = c.args.position.now in
    let row_unmove : RowUnmove = c.row_unmove-item.result in
    let cache : IsRowUnmove b n of s.own of.lesser row_unmove =
    subst (IsRowUnmove b n of s.own of.lesser) (sym c.row_unmove-item.is) (c.requires.unmoves.each c.loop-row_unmove.row_unmove-index row_unmove c.loop-row_unmove-test.true) in
    let image_is : c.image_of-image.result ≡ image_of (b.image row_unmove.symmetry) s.other = c.image_of-image.ensures ∙ ap (image_of (b.image row_unmove.symmetry)) c.other-waiting.ensures.points in
    subst (λ (m : ℕ). IsCanonicalStanding b n of (count_of m) row_unmove.standing) (sym image_is)
    (step_stands b n g.met.B.Geometry.few g.met.B.Geometry.point_count g.met.B.Geometry.has_symmetries (omega (arith, g.met.B.Geometry.symmetry_count, g.met.B.Geometry.few_symmetries))
    of c.pair.ensures.lawful c.requires.two s c.other-waiting.ensures.lawful c.requires.counts c.requires.to_first_half row_unmove cache)

pub entry_at-node-requires-clause-lawful : goal.entry_at-node-requires-clause-lawful
entry_at-node-requires-clause-lawful g c =
    let b : Shape = g.B.Geometry.shape in
    let n : ℕ = g.B.Geometry.POINTS in
    let of : Counts = c.args.classes.now in
    let s : Sides = c.args.position.now in
    let row_unmove : RowUnmove = c.row_unmove-item.result in
    let cache : IsRowUnmove b n of s.own of.lesser row_unmove =
    subst (IsRowUnmove b n of s.own of.lesser) (sym c.row_unmove-item.is) (c.requires.unmoves.each c.loop-row_unmove.row_unmove-index row_unmove c.loop-row_unmove-test.true) in
    let image_is : c.image_of-image.result ≡ image_of (b.image row_unmove.symmetry) s.other = c.image_of-image.ensures ∙ ap (image_of (b.image row_unmove.symmetry)) c.other-waiting.ensures.points in
    let free : has s.other row_unmove.from ≡ false = ap (λ (m : ℕ). has m row_unmove.from) (sym c.other-waiting.ensures.points) ∙ sym c.has.ensures ∙ c.if-not-has.true in
    subst (λ (m : ℕ). IsPosition b (sides row_unmove.standing.own m)) (sym image_is)
    (image_lawful b n g.met.B.Geometry.few g.met.B.Geometry.point_count g.met.B.Geometry.has_symmetries (omega (arith, g.met.B.Geometry.symmetry_count, g.met.B.Geometry.few_symmetries))
    of c.pair.ensures.lawful c.requires.two s c.other-waiting.ensures.lawful c.requires.counts c.requires.to_first_half row_unmove cache free)

pub loop-row_unmove-preserved : goal.loop-row_unmove-preserved
loop-row_unmove-preserved g c =
    let b : Shape = g.B.Geometry.shape in
    let n : ℕ = g.B.Geometry.POINTS in
    let of : Counts = c.args.classes.now in
    let s : Sides = c.args.position.now in
    let row_unmove : RowUnmove = c.row_unmove-item.result in
    let cache : IsRowUnmove b n of s.own of.lesser row_unmove =
    subst (IsRowUnmove b n of s.own of.lesser) (sym c.row_unmove-item.is) (c.requires.unmoves.each c.loop-row_unmove.row_unmove-index row_unmove c.loop-row_unmove-test.true) in
    let before : c.loop-row_unmove.out.items ≡ c.args.out.now.items ++ nodes_by b n of (swap_sides s) (map unmove_of (take c.loop-row_unmove.row_unmove-index c.args.unmoves.now)) = c.loop-row_unmove.invariant.listed in
    record {
      listed = elim c.if-not-has.branch [
        | then-not-has+in_ok-push w ↦
            let image_is : w.image_of-image.result ≡ image_of (b.image row_unmove.symmetry) s.other = w.image_of-image.ensures ∙ ap (image_of (b.image row_unmove.symmetry)) c.other-waiting.ensures.points in
            let free : has s.other row_unmove.from ≡ false = ap (λ (m : ℕ). has m row_unmove.from) (sym c.other-waiting.ensures.points) ∙ sym c.has.ensures ∙ w.if-not-has.true in
            let node : w.entry_at-node.result ≡ predecessor_by b n of (swap_sides s) (unmove_of row_unmove) =
            w.entry_at-node.ensures.value ∙ ap (λ (m : ℕ). class_index_of b n of (sides row_unmove.standing.own m)) image_is
            ∙ step_node b n g.met.B.Geometry.few g.met.B.Geometry.point_count g.met.B.Geometry.has_symmetries (omega (arith, g.met.B.Geometry.symmetry_count, g.met.B.Geometry.few_symmetries))
            of c.pair.ensures.lawful c.requires.two s c.other-waiting.ensures.lawful c.requires.counts c.requires.to_first_half row_unmove cache free in
            rw w.out-is
            (w.in_ok-push.ensures.items
            ∙ nodes_more b n of (swap_sides s) c.args.unmoves.now c.loop-row_unmove.row_unmove-index row_unmove c.loop-row_unmove-test.true c.row_unmove-item.is c.args.out.now.items c.loop-row_unmove.out.items before
            w.entry_at-node.result (ap not free) node)
        | else-not-has w ↦
            let stands : has s.other row_unmove.from ≡ true = ap (λ (m : ℕ). has m row_unmove.from) (sym c.other-waiting.ensures.points) ∙ sym c.has.ensures ∙ w.if-not-has.false in
            rw w.out-is
            (nodes_same b n of (swap_sides s) c.args.unmoves.now c.loop-row_unmove.row_unmove-index row_unmove c.loop-row_unmove-test.true c.row_unmove-item.is c.args.out.now.items c.loop-row_unmove.out.items before
            (ap not stands))
      ];
    }

pub returns : goal.returns
returns g c =
    added_by_unmoves g.B.Geometry.shape g.B.Geometry.POINTS g.met.B.Geometry.few g.met.B.Geometry.point_count g.met.B.Geometry.has_symmetries
    (omega (arith, g.met.B.Geometry.symmetry_count, g.met.B.Geometry.few_symmetries)) c.args.classes.now c.pair.ensures.lawful c.requires.two
    c.args.position.now c.other-waiting.ensures.lawful c.requires.counts c.requires.to_first_half c.requires.own c.args.unmoves.now c.requires.unmoves
    c.args.out.now.items c.loop-row_unmove.out.items
    (c.loop-row_unmove.invariant.listed
    ∙ ap (λ (xs : List RowUnmove). c.args.out.now.items ++ nodes_by g.B.Geometry.shape g.B.Geometry.POINTS c.args.classes.now (swap_sides c.args.position.now) (map unmove_of xs))
    (take_all c.loop-row_unmove.row_unmove-index c.args.unmoves.now (omega arith)))
