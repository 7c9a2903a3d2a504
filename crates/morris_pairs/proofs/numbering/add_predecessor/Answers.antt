use Rattle.std.proofs.Common.{◌≡◌, ℕ, ◌++◌, true, List, None, map, sym, ap, ◌∙◌, append_assoc}
use Rattle.std.proofs.lemmas.List.{append-nil}
use Rattle.morris_board.specs.Sets.{has, members}
use Rattle.morris_index.specs.Moves.{InPair}
use Rattle.morris_pairs.specs.declared.layout.Layout.TheVariants.{Classes}
use Rattle.morris_moves.specs.Rules.{move}
use Rattle.morris_pairs.specs.Orders.{order_of}
use Rattle.morris_pairs.specs.Predecessors.{predecessors_of, predecessors_by_move}
use Rattle.morris_pairs.proofs.BackLawsLoops.{end_of, next_points, leading_into_none, leading_into_more, none_left}
use Rattle.morris_pairs.proofs.numbering.add_predecessor.Goals as goal

pub loop-from-init : goal.loop-from-init
loop-from-init g c =
    let q : InPair = c.args.entries.now in
    record {
      points = ap members (c.into_iter-from-iterator.ensures.into_iter_gives ∙ c.iter-from-items.ensures.points);
      listed = sym (ap (λ xs. c.args.out.now.items ++ xs)
          (leading_into_none (order_of Classes) g.B.Geometry.shape g.B.Geometry.POINTS q.pair q.position c.args.to) ∙ append-nil c.args.out.now.items);
    }

pub add-requires-clause-start : goal.add-requires-clause-start
add-requires-clause-start g c =
    let here : has c.args.sources c.in-Some.from ≡ true = end_of c.args.sources c.in-Some.from c.loop-from.yielded _ _ c.loop-from.invariant.points c.in-Some.ensures.steps in
    (c.requires.sources c.in-Some.from here).0

pub add-requires-clause-vacant : goal.add-requires-clause-vacant
add-requires-clause-vacant g c =
    let here : has c.args.sources c.in-Some.from ≡ true = end_of c.args.sources c.in-Some.from c.loop-from.yielded _ _ c.loop-from.invariant.points c.in-Some.ensures.steps in
    (c.requires.sources c.in-Some.from here).1

pub loop-from-preserved : goal.loop-from-preserved
loop-from-preserved g c =
    let q : InPair = c.args.entries.now in
    record {
      points = next_points c.loop-from.yielded c.in-Some.from _ _ _ c.loop-from.invariant.points c.in-Some.ensures.steps;
      listed = c.in_ok-add.ensures.in_order
          ∙ (ap (λ (xs : List ℕ). xs ++ predecessors_by_move Classes g.B.Geometry.shape g.B.Geometry.POINTS q.pair q.position c.in-Some.from c.args.to)
          c.loop-from.invariant.listed
          ∙ (append_assoc c.args.out.now.items _ _
          ∙ ap (λ (xs : List ℕ). c.args.out.now.items ++ xs)
          (leading_into_more (order_of Classes) g.B.Geometry.shape g.B.Geometry.POINTS q.pair q.position c.loop-from.yielded c.in-Some.from c.args.to)));
    }

pub returns : goal.returns
returns g c =
    let q : InPair = c.args.entries.now in
    let all = none_left c.loop-from.yielded _ _ c.loop-from.invariant.points c.in-None.ensures.steps.0 in
    c.loop-from.invariant.listed
    ∙ ap (λ (us : List ℕ). c.args.out.now.items ++ predecessors_of Classes g.B.Geometry.shape g.B.Geometry.POINTS q.pair q.position (map (λ u. move u c.args.to None) us)) all
