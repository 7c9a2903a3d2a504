use Rattle.morris_moves.proofs.ValueLaws.{IsOpenBelow}
use Rattle.morris_moves.proofs.look_ahead.within.Given as goal

abbrev pub invariant-loop-depth : goal.invariant-loop-depth
invariant-loop-depth g l = IsOpenBelow g.B.Geometry.shape l.position l.depth
