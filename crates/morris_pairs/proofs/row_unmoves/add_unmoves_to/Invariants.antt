use Rattle.std.proofs.Common.{◌≡◌, ◌++◌}
use Rattle.std.specs.List.{flat_map}
use Rattle.morris_board.specs.Sets.{members}
use Rattle.morris_pairs.specs.RowUnmoves.{AddsUnmoves, unmoves_from}
use Rattle.morris_pairs.proofs.row_unmoves.add_unmoves_to.Given as goal

abbrev pub invariant-loop-from : goal.invariant-loop-from
invariant-loop-from g l = record {
  points : l.yielded ++ members l.from-iterator ≡ members l.initial.from-iterator;
  adds : AddsUnmoves g.B.Geometry.shape g.B.Geometry.POINTS l.fn.classes l.fn.stones l.fn.classes.lesser
      (flat_map (unmoves_from g.B.Geometry.shape l.fn.stones l.fn.to) l.yielded) l.initial.unmoves.items l.unmoves.items;
}
