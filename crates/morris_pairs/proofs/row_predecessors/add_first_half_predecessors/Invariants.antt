use Rattle.std.proofs.Common.{take}
use Rattle.morris_pairs.specs.RowPredecessors.{ArePredecessors}
use Rattle.morris_pairs.proofs.row_predecessors.add_first_half_predecessors.Given as goal

abbrev pub invariant-loop-at : goal.invariant-loop-at
invariant-loop-at g l = record {
  before : ArePredecessors g.B.Geometry.shape g.B.Geometry.POINTS l.fn.classes (take l.at l.fn.nodes) l.out.items;
}
