-- The table has the transversals of the classes so far.
use Rattle.morris_index.specs.Unmoves.{AreTransversals}
use Rattle.morris_index.proofs.transversals.make_transversals.Given as goal

abbrev pub invariant-loop-class : goal.invariant-loop-class
invariant-loop-class g l = AreTransversals g.B.Geometry.shape g.B.Geometry.POINTS l.classes l.class l.table.items
