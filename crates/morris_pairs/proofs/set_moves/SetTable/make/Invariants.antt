use Rattle.morris_pairs.specs.SetMoves.{AreSetsTabled}
use Rattle.morris_pairs.proofs.set_moves.SetTable.make.Given as goal

abbrev pub invariant-loop-mask : goal.invariant-loop-mask
invariant-loop-mask g l = record {
  tabled : AreSetsTabled g.B.Geometry.shape g.B.Geometry.POINTS l.table;
}
