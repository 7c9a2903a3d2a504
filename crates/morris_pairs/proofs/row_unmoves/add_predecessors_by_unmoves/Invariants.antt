use Rattle.std.proofs.Common.{◌≡◌, ◌++◌, map, take}
use Rattle.morris_index.specs.ByOpponent.{swap_sides}
use Rattle.morris_pairs.specs.RowUnmoves.{nodes_by, unmove_of}
use Rattle.morris_pairs.proofs.row_unmoves.add_predecessors_by_unmoves.Given as goal

abbrev pub invariant-loop-row_unmove : goal.invariant-loop-row_unmove
invariant-loop-row_unmove g l = record {
  listed : l.out.items ≡ l.initial.out.items
      ++ nodes_by g.B.Geometry.shape g.B.Geometry.POINTS l.fn.classes (swap_sides l.fn.position) (map unmove_of (take l.row_unmove-index l.unmoves));
}
