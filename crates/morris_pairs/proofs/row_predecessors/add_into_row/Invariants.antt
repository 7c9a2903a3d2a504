use Rattle.std.proofs.Common.{◌≡◌, ◌++◌, None, map}
use Rattle.morris_board.specs.Sets.{members}
use Rattle.morris_moves.specs.Rules.{move}
use Rattle.morris_pairs.specs.Predecessors.{predecessors_in}
use Rattle.morris_pairs.specs.Orders.{Rows}
use Rattle.morris_pairs.proofs.row_predecessors.add_into_row.Given as goal

abbrev pub invariant-loop-from : goal.invariant-loop-from
invariant-loop-from g l = record {
  points : l.yielded ++ members l.from-iterator ≡ members l.fn.sources;
  listed : l.out.items ≡ l.initial.out.items
      ++ predecessors_in Rows g.B.Geometry.shape g.B.Geometry.POINTS l.fn.classes l.fn.position (map (λ u. move u l.fn.to None) l.yielded);
}
