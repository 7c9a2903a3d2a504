use Rattle.std.proofs.Common.{◌≡◌, ℕ, ◌%◌, ◌<◌, ◌≤◌, false}
use Rattle.morris_board.specs.Sets.{has}
use Rattle.morris_index.specs.Numbering.{number_outside}
use Rattle.morris_pairs.specs.NumberedRows.{count_at}
use Rattle.morris_pairs.specs.Rows.{arrivals}
use Rattle.morris_pairs.proofs.numbered_row.NumberedRow.of.Given as goal

abbrev pub invariant-loop-point : goal.invariant-loop-point
invariant-loop-point g l = record {
  numbered : l.number ≡ number_outside l.row.own l.point;
  each : (v : ℕ) → v < l.point → has l.row.own v ≡ false
      → count_at l.arrivals (number_outside l.row.own v) ≡ arrivals g.B.Geometry.shape l.row.own v % 16;
  none : (k : ℕ) → l.number ≤ k → count_at l.arrivals k ≡ 0;
  closing : (v : ℕ) → v < l.point → has l.row.own v ≡ false → has l.closing (number_outside l.row.own v) ≡ has l.row.closing v;
  above : (k : ℕ) → l.number ≤ k → has l.closing k ≡ false;
}
