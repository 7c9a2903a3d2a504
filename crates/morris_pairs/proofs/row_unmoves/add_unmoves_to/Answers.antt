use Rattle.std.proofs.Common.{◌≡◌, List, true, refl, sym, ap, subst, ◌∙◌, arith}
use Rattle.std.specs.List.{flat_map}
use Rattle.morris_board.specs.Sets.{has, members}
use Rattle.morris_board.proofs.SetLaws.{point_lt}
use Rattle.morris_pairs.specs.RowUnmoves.{Unmove, unmoves_from, AddsUnmoves}
use Rattle.morris_pairs.proofs.BackLawsLoops.{end_of, next_points, none_left}
use Rattle.morris_pairs.proofs.RowStepLaws.{adds_none, adds_then, among_more, at_mill, source_lt, source_vacant, at_sources}
use Rattle.morris_pairs.proofs.row_unmoves.add_unmoves_to.Given as given
use Rattle.morris_pairs.proofs.row_unmoves.add_unmoves_to.Goals as goal
use Rattle.morris_pairs.proofs.row_unmoves.add_unmoves_to.Goals.{In-Some}

-- the stone may have come from there
here : (g : given.Over) (c : In-Some g) → has c.difference-sources.result c.in-Some.from ≡ true
here g c =
    end_of c.difference-sources.result c.in-Some.from c.loop-from.yielded _ _ (c.loop-from.invariant.points ∙ ap members (c.into_iter-from-iterator.ensures.into_iter_gives ∙ c.iter-from-items.ensures.points)) c.in-Some.ensures.steps

pub in_mill-requires : goal.in_mill-requires
in_mill-requires g c = point_lt c.args.stones g.B.Geometry.POINTS c.args.to c.requires.stones c.requires.end

pub returns-then-in_mill : goal.returns-then-in_mill
returns-then-in_mill g c =
    subst (λ (xs : List Unmove). AddsUnmoves g.B.Geometry.shape g.B.Geometry.POINTS c.args.classes.now c.args.stones c.args.classes.now.lesser xs c.args.unmoves.now.items c.args.unmoves.now.items)
    (sym (at_mill g.B.Geometry.shape c.args.stones c.args.to (sym c.in_mill.ensures ∙ c.if-in_mill.true)))
    (adds_none g.B.Geometry.shape g.B.Geometry.POINTS c.args.classes.now c.args.stones c.args.classes.now.lesser c.args.unmoves.now.items)

pub neighbours-requires : goal.neighbours-requires
neighbours-requires g c = point_lt c.args.stones g.B.Geometry.POINTS c.args.to c.requires.stones c.requires.end

pub loop-from-init : goal.loop-from-init
loop-from-init g c = record {
  points = refl;
  adds = adds_none g.B.Geometry.shape g.B.Geometry.POINTS c.args.classes.now c.args.stones c.args.classes.now.lesser c.args.unmoves.now.items;
}

pub add_unmoves_from-requires-clause-start : goal.add_unmoves_from-requires-clause-start
add_unmoves_from-requires-clause-start g c =
    source_lt g.B.Geometry.shape g.B.Geometry.POINTS g.met.B.Geometry.few g.met.B.Geometry.point_count c.args.stones c.args.to c.neighbours.result c.difference-sources.result
    (omega (arith, c.requires.count, c.requires.two, c.pair.ensures.lawful.least)) (sym c.in_mill.ensures ∙ c.if-in_mill.false) c.neighbours.ensures c.difference-sources.ensures
    c.in-Some.from (here g (goal.at.add_unmoves_from-requires-clause-start g c).In-Some)

pub add_unmoves_from-requires-clause-vacant : goal.add_unmoves_from-requires-clause-vacant
add_unmoves_from-requires-clause-vacant g c =
    source_vacant g.B.Geometry.shape g.B.Geometry.POINTS g.met.B.Geometry.few g.met.B.Geometry.point_count c.args.stones c.args.to c.neighbours.result c.difference-sources.result
    (omega (arith, c.requires.count, c.requires.two, c.pair.ensures.lawful.least)) (sym c.in_mill.ensures ∙ c.if-in_mill.false) c.neighbours.ensures c.difference-sources.ensures
    c.in-Some.from (here g (goal.at.add_unmoves_from-requires-clause-vacant g c).In-Some)

pub loop-from-preserved : goal.loop-from-preserved
loop-from-preserved g c = record {
  points = next_points c.loop-from.yielded c.in-Some.from _ _ _ c.loop-from.invariant.points c.in-Some.ensures.steps;
  adds = subst (λ (xs : List Unmove). AddsUnmoves g.B.Geometry.shape g.B.Geometry.POINTS c.args.classes.now c.args.stones c.args.classes.now.lesser xs c.args.unmoves.now.items c.add_unmoves_from.new.unmoves.items)
      (among_more g.B.Geometry.shape c.args.stones c.args.to c.loop-from.yielded c.in-Some.from)
      (adds_then g.B.Geometry.shape g.B.Geometry.POINTS c.args.classes.now c.args.stones c.args.classes.now.lesser
      (flat_map (unmoves_from g.B.Geometry.shape c.args.stones c.args.to) c.loop-from.yielded) (unmoves_from g.B.Geometry.shape c.args.stones c.args.to c.in-Some.from)
      c.args.unmoves.now.items c.loop-from.unmoves.items c.add_unmoves_from.new.unmoves.items c.loop-from.invariant.adds c.in_ok-add_unmoves_from.ensures);
}

pub returns : goal.returns
returns g c =
    let all = none_left c.loop-from.yielded _ _ (c.loop-from.invariant.points ∙ ap members (c.into_iter-from-iterator.ensures.into_iter_gives ∙ c.iter-from-items.ensures.points)) c.in-None.ensures.steps.0 in
    subst (λ (xs : List Unmove). AddsUnmoves g.B.Geometry.shape g.B.Geometry.POINTS c.args.classes.now c.args.stones c.args.classes.now.lesser xs c.args.unmoves.now.items c.loop-from.unmoves.items)
    (ap (flat_map (unmoves_from g.B.Geometry.shape c.args.stones c.args.to)) all
    ∙ sym (at_sources g.B.Geometry.shape g.B.Geometry.POINTS g.met.B.Geometry.few g.met.B.Geometry.point_count c.args.stones c.args.to c.neighbours.result c.difference-sources.result
    (omega (arith, c.requires.count, c.requires.two, c.pair.ensures.lawful.least)) (sym c.in_mill.ensures ∙ c.if-in_mill.false) c.neighbours.ensures c.difference-sources.ensures))
    c.loop-from.invariant.adds
