use Rattle.std.proofs.Common.{◌≡◌, ◌++◌}
use Rattle.morris_board.specs.Sets.{members}
use Rattle.morris_pairs.specs.Captured.{captures_to}
use Rattle.morris_pairs.proofs.CaptureLaws.{GoesOn}
use Rattle.morris_pairs.proofs.graph.with_captures.Given as goal

abbrev pub invariant-loop-to : goal.invariant-loop-to
invariant-loop-to g l = record {
  points : l.yielded ++ members l.to-iterator ≡ members l.fn.ends;
  summed : GoesOn g.B.Geometry.shape l.position l.fn.known l.exits (captures_to l.row.closers l.taken l.yielded);
}
