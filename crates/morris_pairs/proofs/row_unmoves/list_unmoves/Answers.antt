use Rattle.std.proofs.Common.{ℕ, List, [], sym, ap, subst, ◌∙◌}
use Rattle.std.specs.List.{flat_map}
use Rattle.morris_board.specs.Sets.{members}
use Rattle.morris_pairs.proofs.BackLawsLoops.{end_of, next_points, none_left}
use Rattle.morris_pairs.specs.declared.row_unmoves.RowUnmove.{RowUnmove}
use Rattle.morris_pairs.specs.RowUnmoves.{Unmove, unmoves_at, unmoves_into, AddsUnmoves}
use Rattle.morris_pairs.proofs.RowStepLaws.{adds_none, adds_then, into_more, kept_at_end}
use Rattle.morris_pairs.proofs.row_unmoves.list_unmoves.Goals as goal

pub loop-to-init : goal.loop-to-init
loop-to-init g c = record {
  points = ap members (c.into_iter-to-iterator.ensures.into_iter_gives ∙ c.iter-to-items.ensures.points);
  adds = subst (λ (xs : List RowUnmove). AddsUnmoves g.B.Geometry.shape g.B.Geometry.POINTS c.args.classes.now c.args.stones c.args.classes.now.lesser [] [] xs)
      (sym c.clear.ensures.items) (adds_none g.B.Geometry.shape g.B.Geometry.POINTS c.args.classes.now c.args.stones c.args.classes.now.lesser []);
}

pub add_unmoves_to-requires-clause-end : goal.add_unmoves_to-requires-clause-end
add_unmoves_to-requires-clause-end g c =
    end_of c.args.stones c.in-Some.to c.loop-to.yielded _ _ c.loop-to.invariant.points c.in-Some.ensures.steps

pub loop-to-preserved : goal.loop-to-preserved
loop-to-preserved g c = record {
  points = next_points c.loop-to.yielded c.in-Some.to _ _ _ c.loop-to.invariant.points c.in-Some.ensures.steps;
  adds = subst (λ (xs : List Unmove). AddsUnmoves g.B.Geometry.shape g.B.Geometry.POINTS c.args.classes.now c.args.stones c.args.classes.now.lesser xs [] c.add_unmoves_to.new.unmoves.items)
      (into_more g.B.Geometry.shape c.args.stones c.loop-to.yielded c.in-Some.to)
      (adds_then g.B.Geometry.shape g.B.Geometry.POINTS c.args.classes.now c.args.stones c.args.classes.now.lesser
      (flat_map (unmoves_at g.B.Geometry.shape c.args.stones) c.loop-to.yielded) (unmoves_at g.B.Geometry.shape c.args.stones c.in-Some.to)
      [] c.loop-to.unmoves.items c.add_unmoves_to.new.unmoves.items c.loop-to.invariant.adds c.in_ok-add_unmoves_to.ensures);
}

pub returns : goal.returns
unfolding unmoves_into
returns g c =
    let all = none_left c.loop-to.yielded _ _ c.loop-to.invariant.points c.in-None.ensures.steps.0 in
    kept_at_end g.B.Geometry.shape g.B.Geometry.POINTS c.args.classes.now c.args.stones c.args.classes.now.lesser c.loop-to.unmoves.items
    (subst (λ (vs : List ℕ). AddsUnmoves g.B.Geometry.shape g.B.Geometry.POINTS c.args.classes.now c.args.stones c.args.classes.now.lesser
    (flat_map (unmoves_at g.B.Geometry.shape c.args.stones) vs) [] c.loop-to.unmoves.items) all c.loop-to.invariant.adds)
