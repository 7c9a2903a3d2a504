use Rattle.std.proofs.Common.{◌&&◌, not, sym, ap, ◌∙◌}
use Rattle.morris_board.specs.Sets.{has, members}
use Rattle.morris_moves.specs.Rules.{takable_stones}
use Rattle.morris_pairs.specs.Graphs.{exits_by}
use Rattle.morris_pairs.proofs.BackLawsLoops.{end_of, next_points, none_left}
use Rattle.morris_pairs.proofs.GraphLaws.{exits_by-none}
use Rattle.morris_pairs.proofs.CaptureLaws.{kept_captures, kept_more, kept_suffice, row_ends}
use Rattle.morris_pairs.proofs.graph.PairGraph.exits_by_row.Goals as goal

pub capture_ends-requires-clause-closing : goal.capture_ends-requires-clause-closing
capture_ends-requires-clause-closing g c = λ v.
    ap (λ x. x && not (has c.args.position.now.other v)) (row_ends g.B.Geometry.shape g.B.Geometry.POINTS g.met.B.Geometry.point_count g.met.B.Geometry.few c.args.position.now c.requires.lawful
    c.args.row.now c.requires.own c.requires.row v)

pub loop-taken-init : goal.loop-taken-init
loop-taken-init g c = record {
  points = ap members (c.into_iter-taken-iterator.ensures.into_iter_gives ∙ (c.iter-taken-items.ensures.points ∙ (c.takable_stones.ensures ∙ ap (takable_stones g.B.Geometry.shape) c.other.ensures.points)));
  summed = sym (exits_by-none g.B.Geometry.shape c.args.position.now);
}

pub with_captures-exits-requires-clause-taken : goal.with_captures-exits-requires-clause-taken
with_captures-exits-requires-clause-taken g c =
    end_of (takable_stones g.B.Geometry.shape c.args.position.now.other) c.in-Some.taken c.loop-taken.yielded _ _ c.loop-taken.invariant.points c.in-Some.ensures.steps

pub loop-taken-preserved : goal.loop-taken-preserved
loop-taken-preserved g c = record {
  points = next_points c.loop-taken.yielded c.in-Some.taken _ _ _ c.loop-taken.invariant.points c.in-Some.ensures.steps;
  summed = kept_more g.B.Geometry.shape c.args.position.now c.loop-taken.exits c.with_captures-exits.result c.args.row.now c.in-Ok.ends
      c.loop-taken.yielded c.in-Some.taken c.loop-taken.invariant.summed c.with_captures-exits.ensures;
}

pub returns : goal.returns
returns g c =
    let all = none_left c.loop-taken.yielded _ _ c.loop-taken.invariant.points c.in-None.ensures.steps.0 in
    c.loop-taken.invariant.summed ∙ (ap (λ ts. exits_by g.B.Geometry.shape c.args.position.now (kept_captures c.args.row.now c.in-Ok.ends ts)) all
    ∙ kept_suffice g.B.Geometry.shape g.B.Geometry.POINTS g.met.B.Geometry.point_count g.met.B.Geometry.few c.args.position.now c.requires.lawful c.args.row.now c.requires.own c.requires.row
    c.in-Ok.ends c.in-Ok.ensures.ends)
