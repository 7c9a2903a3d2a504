use Rattle.std.proofs.Common.{◌≡◌, ◌≤◌, ◌*◌, ◌++◌, length}
use Rattle.std.specs.List.{sum_by}
use Rattle.morris_board.specs.Sets.{members}
use Rattle.morris_pairs.specs.Rows.{arrivals}
use Rattle.morris_pairs.proofs.rows.Row.quiet_moves.Given as goal

abbrev pub invariant-loop-to : goal.invariant-loop-to
invariant-loop-to g l = record {
  points : l.yielded ++ members l.to-iterator ≡ members l.position.other;
  summed : l.gone ≡ sum_by (arrivals g.B.Geometry.shape l.position.own) l.yielded;
  few : l.gone ≤ length l.yielded * 32;
}
