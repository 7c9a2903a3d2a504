use Rattle.std.proofs.Common.{◌≡◌, ◌++◌, []}
use Rattle.std.specs.List.{flat_map}
use Rattle.morris_board.specs.Sets.{members}
use Rattle.morris_pairs.specs.RowUnmoves.{AddsUnmoves, unmoves_at}
use Rattle.morris_pairs.proofs.row_unmoves.list_unmoves.Given as goal

abbrev pub invariant-loop-to : goal.invariant-loop-to
invariant-loop-to g l = record {
  points : l.yielded ++ members l.to-iterator ≡ members l.fn.stones;
  adds : AddsUnmoves g.B.Geometry.shape g.B.Geometry.POINTS l.fn.classes l.fn.stones l.fn.classes.lesser
      (flat_map (unmoves_at g.B.Geometry.shape l.fn.stones) l.yielded) [] l.unmoves.items;
}
