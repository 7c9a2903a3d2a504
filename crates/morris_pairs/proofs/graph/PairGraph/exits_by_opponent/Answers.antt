use Rattle.std.proofs.Common.{◌≡◌, ◌++◌, ◌&&◌, [], true, refl, ap, subst, ◌∙◌}
use Rattle.std.proofs.lemmas.List.{flat_map_more}
use Rattle.morris_board.specs.Sets.{has, members}
use Rattle.morris_wave.specs.Exits.{exits_of}
use Rattle.morris_pairs.specs.CaptureCaches.{open_ends, closers_at, codes_by, codes_at}
use Rattle.morris_pairs.specs.Rows.{is_closing_end}
use Rattle.morris_pairs.proofs.BackLawsLoops.{end_of, next_points, none_left}
use Rattle.morris_pairs.proofs.CaptureLaws.{closers_of, open_closes, open_low}
use Rattle.morris_pairs.proofs.FacingCaptureLaws.{facings_suffice}
use Rattle.morris_pairs.proofs.graph.PairGraph.exits_by_opponent.Given as given
use Rattle.morris_pairs.proofs.graph.PairGraph.exits_by_opponent.Goals as goal
use Rattle.morris_pairs.proofs.graph.PairGraph.exits_by_opponent.Goals.{In-Some, After-arrivals_and_closers-closers}

-- the point is one at which a mill is closed
here : (g : given.Over) (c : In-Some g) → has (open_ends g.B.Geometry.shape c.args.position.now.own c.args.position.now.other) c.in-Some.to ≡ true
here g c =
    end_of (open_ends g.B.Geometry.shape c.args.position.now.own c.args.position.now.other) c.in-Some.to c.loop-to.yielded _ _ c.loop-to.invariant.points c.in-Some.ensures.steps

-- the stones that close it
closers : (g : given.Over) (c : After-arrivals_and_closers-closers g) → c.arrivals_and_closers-closers.result.1 ≡ closers_at g.B.Geometry.shape c.args.position.now.own c.in-Some.to
closers g c =
    closers_of g.B.Geometry.shape g.B.Geometry.POINTS g.met.B.Geometry.point_count g.met.B.Geometry.few c.args.position.now c.requires.lawful c.arrivals_and_closers-closers.result.1 c.in-Some.to
    (λ u. c.arrivals_and_closers-closers.ensures.closing u ∙ ap (λ o. has o u && is_closing_end g.B.Geometry.shape o u c.in-Some.to) c.own.ensures.points)

pub loop-to-init : goal.loop-to-init
loop-to-init g c = record {
  points = ap members (c.into_iter-to-iterator.ensures.into_iter_gives ∙ c.iter-to-items.ensures.points ∙ c.in-Ok.ensures.ends);
  cache = c.requires.cache;
  summed = refl;
}

pub arrivals_and_closers-closers-requires-clause-end : goal.arrivals_and_closers-closers-requires-clause-end
arrivals_and_closers-closers-requires-clause-end g c =
    open_low g.B.Geometry.shape g.B.Geometry.POINTS g.met.B.Geometry.point_count g.met.B.Geometry.few c.args.position.now c.requires.lawful
    c.in-Some.to (here g (goal.at.arrivals_and_closers-closers-requires-clause-end g c).In-Some)

pub with_opponents-exits-requires-clause-cache : goal.with_opponents-exits-requires-clause-cache
with_opponents-exits-requires-clause-cache g c = c.loop-to.invariant.cache

pub with_opponents-exits-requires-clause-closers : goal.with_opponents-exits-requires-clause-closers
with_opponents-exits-requires-clause-closers g c = λ u h.
    let at = goal.at.with_opponents-exits-requires-clause-closers g c in
    open_closes g.B.Geometry.shape g.B.Geometry.POINTS g.met.B.Geometry.point_count g.met.B.Geometry.few c.args.position.now c.requires.lawful
    c.in-Some.to (here g at.In-Some) u (subst (λ x. has x u ≡ true) (closers g at.After-arrivals_and_closers-closers) h)

pub loop-to-preserved : goal.loop-to-preserved
loop-to-preserved g c =
    let b = g.B.Geometry.shape in
    let s = c.args.position.now in
    record {
      points = next_points c.loop-to.yielded c.in-Some.to _ _ _ c.loop-to.invariant.points c.in-Some.ensures.steps;
      cache = c.with_opponents-exits.ensures.cache;
      summed = c.with_opponents-exits.ensures.value (codes_at b s c.loop-to.yielded) c.loop-to.invariant.summed
          ∙ ap (λ x. exits_of (codes_at b s c.loop-to.yielded ++ codes_by b s c.in-Some.to (members x))) (closers g (goal.at.loop-to-preserved g c).After-arrivals_and_closers-closers)
          ∙ ap exits_of (flat_map_more (λ v. codes_by b s v (members (closers_at b s.own v))) [] c.loop-to.yielded c.in-Some.to);
    }

pub returns-clause-value : goal.returns-clause-value
returns-clause-value g c =
    let s = c.args.position.now in
    let all = none_left c.loop-to.yielded _ _ c.loop-to.invariant.points c.in-None.ensures.steps.0 in
    c.loop-to.invariant.summed ∙ ap (λ vs. exits_of (codes_at g.B.Geometry.shape s vs)) all
    ∙ facings_suffice g.B.Geometry.shape g.B.Geometry.POINTS g.met.B.Geometry.point_count g.met.B.Geometry.few s c.requires.lawful

pub returns-clause-cache : goal.returns-clause-cache
returns-clause-cache g c = c.loop-to.invariant.cache
