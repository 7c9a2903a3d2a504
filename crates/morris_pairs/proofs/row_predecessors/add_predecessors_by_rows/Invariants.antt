use Rattle.std.proofs.Common.{◌-◌, ◌≤◌, length, take}
use Rattle.morris_pairs.specs.RowPredecessors.{ArePredecessors}
use Rattle.morris_pairs.proofs.row_predecessors.add_predecessors_by_rows.Given as goal

abbrev pub invariant-loop-done : goal.invariant-loop-done
invariant-loop-done g l = record {
  inside : l.done ≤ length l.fn.nodes;
  before : ArePredecessors g.B.Geometry.shape g.B.Geometry.POINTS l.fn.classes (take l.done l.fn.nodes) l.out.items;
}

abbrev pub decreases-loop-done : goal.decreases-loop-done
decreases-loop-done g l = length l.fn.nodes - l.done
