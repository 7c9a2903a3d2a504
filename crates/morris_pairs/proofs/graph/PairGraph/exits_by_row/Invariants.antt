use Rattle.std.proofs.Common.{◌≡◌, ◌++◌}
use Rattle.morris_board.specs.Sets.{members}
use Rattle.morris_moves.specs.Rules.{takable_stones}
use Rattle.morris_pairs.specs.Graphs.{exits_by}
use Rattle.morris_pairs.proofs.CaptureLaws.{kept_captures}
use Rattle.morris_pairs.proofs.graph.PairGraph.exits_by_row.Given as goal

abbrev pub invariant-loop-taken : goal.invariant-loop-taken
invariant-loop-taken g l = record {
  points : l.yielded ++ members l.taken-iterator ≡ members (takable_stones g.B.Geometry.shape l.position.other);
  summed : l.exits ≡ exits_by g.B.Geometry.shape l.position (kept_captures l.row l.ends l.yielded);
}
