use Rattle.std.proofs.Common.{◌≡◌, ◌++◌}
use Rattle.morris_board.specs.Sets.{members}
use Rattle.morris_pairs.specs.Predecessors.{unmoves_to, predecessors_in}
use Rattle.morris_pairs.specs.Orders.{Rows}
use Rattle.morris_pairs.proofs.row_predecessors.add_in_row.Given as goal

abbrev pub invariant-loop-to : goal.invariant-loop-to
invariant-loop-to g l = record {
  points : l.yielded ++ members l.to-iterator ≡ members l.fn.position.other;
  listed : l.out.items ≡ l.initial.out.items ++ predecessors_in Rows g.B.Geometry.shape g.B.Geometry.POINTS l.fn.classes l.fn.position
      (unmoves_to g.B.Geometry.shape l.fn.position g.B.Geometry.POINTS l.yielded);
}
