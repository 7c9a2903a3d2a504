use Rattle.std.proofs.Common.{◌≡◌, ℕ, ◌++◌, List, sym, ap, ◌∙◌, arith, append_assoc}
use Rattle.std.proofs.lemmas.List.{append-nil}
use Rattle.morris_board.specs.Sets.{members}
use Rattle.morris_pairs.specs.Numberings.{layout_before, position_after}
use Rattle.morris_pairs.specs.Orders.{order_of}
use Rattle.morris_pairs.specs.Predecessors.{unmoves_to, moves_into, predecessors_of}
use Rattle.morris_pairs.proofs.BackLawsSources.{source_lt, source_vacant, moves_into-sources}
use Rattle.morris_pairs.proofs.BackLawsLoops.{end_of, next_points, all_leading, leading_none, leading_more}
use Rattle.morris_pairs.proofs.predecessors.add_all_predecessors.Goals as goal

pub loop-to-init : goal.loop-to-init
loop-to-init g c = record {
  points = ap members (c.into_iter-to-iterator.ensures.into_iter_gives ∙ (c.iter-to-items.ensures.points ∙ c.other.ensures.points));
  listed = sym (ap (λ (xs : List ℕ). c.args.out.now.items ++ xs)
      (leading_none (order_of (layout_before c.args.before.now)) g.B.Geometry.shape g.B.Geometry.POINTS (position_after c.args.before.now).pair c.args.position.now)
      ∙ append-nil c.args.out.now.items);
}

pub sources-requires : goal.sources-requires
sources-requires g c =
    end_of c.args.position.now.other c.in-Some.to c.loop-to.yielded _ _ c.loop-to.invariant.points c.in-Some.ensures.steps

pub add-requires-clause-end : goal.add-requires-clause-end
add-requires-clause-end g c =
    rw c.requires.position
    (end_of c.args.position.now.other c.in-Some.to c.loop-to.yielded _ _ c.loop-to.invariant.points c.in-Some.ensures.steps)

pub add-requires-clause-sources : goal.add-requires-clause-sources
add-requires-clause-sources g c =
    rw c.requires.position (λ p here. (
      source_lt g.B.Geometry.shape g.B.Geometry.POINTS g.met.B.Geometry.point_count g.met.B.Geometry.few c.args.position.now c.in-Some.to c.sources.result
          c.sources.ensures.come p here,
      source_vacant g.B.Geometry.shape g.B.Geometry.POINTS g.met.B.Geometry.point_count g.met.B.Geometry.few c.args.position.now c.in-Some.to c.sources.result
          c.sources.ensures.come p here,
    ))

pub loop-to-preserved : goal.loop-to-preserved
loop-to-preserved g c =
    let leading : c.add.new.out.items ≡ c.loop-to.out.items ++ predecessors_of (layout_before c.args.before.now) g.B.Geometry.shape g.B.Geometry.POINTS
    (position_after c.args.before.now).pair c.args.position.now (moves_into g.B.Geometry.shape c.args.position.now c.in-Some.to g.B.Geometry.POINTS) =
    rw (
      moves_into-sources g.B.Geometry.shape g.B.Geometry.POINTS g.met.B.Geometry.point_count g.met.B.Geometry.few c.args.position.now c.in-Some.to c.sources.result
          c.sources.ensures.come,
      ← c.requires.position,
    ) c.in_ok-add.ensures in
    record {
      points = next_points c.loop-to.yielded c.in-Some.to _ _ _ c.loop-to.invariant.points c.in-Some.ensures.steps;
      listed = leading
          ∙ (ap (λ (xs : List ℕ). xs ++ predecessors_of (layout_before c.args.before.now) g.B.Geometry.shape g.B.Geometry.POINTS (position_after c.args.before.now).pair
          c.args.position.now (moves_into g.B.Geometry.shape c.args.position.now c.in-Some.to g.B.Geometry.POINTS)) c.loop-to.invariant.listed
          ∙ (append_assoc c.args.out.now.items _ _
          ∙ ap (λ (xs : List ℕ). c.args.out.now.items ++ xs)
          (leading_more (order_of (layout_before c.args.before.now)) g.B.Geometry.shape g.B.Geometry.POINTS (position_after c.args.before.now).pair c.args.position.now c.loop-to.yielded c.in-Some.to)));
    }

pub returns : goal.returns
returns g c =
    let all = all_leading (order_of (layout_before c.args.before.now)) g.B.Geometry.shape g.B.Geometry.POINTS g.met.B.Geometry.point_count g.met.B.Geometry.few
    g.met.B.Geometry.has_symmetries (position_after c.args.before.now).pair c.requires.pair c.args.position.now c.other.ensures.lawful c.requires.counts c.requires.own
    c.loop-to.yielded c.loop-to.to-iterator c.loop-to.invariant.points c.in-None.ensures.steps.0 in
    record {
      added = predecessors_of (layout_before c.args.before.now) g.B.Geometry.shape g.B.Geometry.POINTS (position_after c.args.before.now).pair c.args.position.now
          (unmoves_to g.B.Geometry.shape c.args.position.now g.B.Geometry.POINTS c.loop-to.yielded);
      follow = c.loop-to.invariant.listed;
      often = λ j low. all.often j;
      nodes = all.nodes;
      few = omega (arith, all.few, g.met.B.Geometry.symmetry_count, g.met.B.Geometry.few_symmetries);
    }
