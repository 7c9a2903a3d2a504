use Rattle.std.proofs.Common.{◌≡◌, ◌++◌}
use Rattle.morris_board.specs.Sets.{members}
use Rattle.morris_moves.proofs.BlockedLaws.{AreStuck}
use Rattle.morris_moves.proofs.look_ahead.is_blocked.Given as goal

abbrev pub invariant-loop-from : goal.invariant-loop-from
invariant-loop-from g l = record {
  points : l.yielded ++ members l.from-iterator ≡ members l.position.own;
  stuck : AreStuck g.B.Geometry.shape l.position l.yielded;
}
