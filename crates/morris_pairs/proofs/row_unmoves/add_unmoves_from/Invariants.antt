use Rattle.morris_pairs.specs.RowUnmoves.{AddsUnmoves}
use Rattle.morris_pairs.proofs.RowStepLaws.{carried_below}
use Rattle.morris_pairs.proofs.row_unmoves.add_unmoves_from.Given as goal

abbrev pub invariant-loop-symmetry : goal.invariant-loop-symmetry
invariant-loop-symmetry g l = record {
  adds : AddsUnmoves g.B.Geometry.shape g.B.Geometry.POINTS l.fn.classes l.fn.stones l.fn.classes.lesser
      (carried_below g.B.Geometry.shape l.fn.stones l.fn.to l.fn.from l.symmetry) l.initial.unmoves.items l.unmoves.items;
}
