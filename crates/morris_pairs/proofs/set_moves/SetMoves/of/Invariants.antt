use Rattle.std.proofs.Common.{◌≡◌, ℕ, ◌%◌, ◌<◌, ◌≤◌}
use Rattle.morris_pairs.specs.NumberedRows.{count_at}
use Rattle.morris_pairs.specs.Rows.{arrivals}
use Rattle.morris_pairs.proofs.set_moves.SetMoves.of.Given as goal

abbrev pub invariant-loop-point : goal.invariant-loop-point
invariant-loop-point g l = record {
  each : (v : ℕ) → v < l.point → count_at l.arrivals v ≡ arrivals g.B.Geometry.shape l.own v % 16;
  none : (v : ℕ) → l.point ≤ v → count_at l.arrivals v ≡ 0;
}
