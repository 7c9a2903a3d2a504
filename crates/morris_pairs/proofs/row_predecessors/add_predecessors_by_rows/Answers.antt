use Rattle.std.proofs.Common.{ℕ, List, take, sym, subst, arith}
use Rattle.morris_pairs.specs.RowPredecessors.{ArePredecessors}
use Rattle.morris_pairs.proofs.RowBackLaws.{before_none, before_all}
use Rattle.morris_pairs.proofs.row_predecessors.add_predecessors_by_rows.Goals as goal

pub loop-done-init : goal.loop-done-init
loop-done-init g c = record {
  inside = omega arith;
  before = subst (λ (xs : List ℕ). ArePredecessors g.B.Geometry.shape g.B.Geometry.POINTS c.args.classes.now (take 0 c.args.nodes.now) xs) (sym c.requires.empty)
      (before_none g.B.Geometry.shape g.B.Geometry.POINTS c.args.classes.now c.args.nodes.now);
}

pub add_row_predecessors-requires-clause-low : goal.add_row_predecessors-requires-clause-low
add_row_predecessors-requires-clause-low g c = c.requires.nodes c.loop-done.done 0 (omega arith)

pub loop-done-preserved : goal.loop-done-preserved
loop-done-preserved g c = record { inside = c.in_ok-done.ensures.inside; before = c.in_ok-done.ensures.before }

pub returns : goal.returns
returns g c =
    before_all g.B.Geometry.shape g.B.Geometry.POINTS c.args.classes.now c.args.nodes.now c.loop-done.done c.loop-done.out.items (omega arith)
    c.loop-done.invariant.before
