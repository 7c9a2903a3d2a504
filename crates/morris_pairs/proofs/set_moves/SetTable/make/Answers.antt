use Rattle.std.proofs.Common.{sym, subst}
use Rattle.morris_pairs.specs.SetMoves.{AreSetsTabled}
use Rattle.morris_pairs.proofs.set_moves.SetTable.make.Goals as goal
use Rattle.morris_pairs.proofs.set_moves.SetTable.make.Goals.{then-count+in_ok-push, else-count}

pub loop-mask-preserved : goal.loop-mask-preserved
loop-mask-preserved g c = record {
  tabled = elim c.if-count.branch [
    | then-count+in_ok-push w ↦ subst (AreSetsTabled g.B.Geometry.shape g.B.Geometry.POINTS) (sym w.table-is) w.in_ok-push.ensures
    | else-count w ↦ subst (AreSetsTabled g.B.Geometry.shape g.B.Geometry.POINTS) (sym w.table-is) c.loop-mask.invariant.tabled
  ];
}
