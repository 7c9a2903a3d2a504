use Rattle.std.proofs.Common.{◌≡◌, ℕ, ◌<◌, ◌≤◌, ◌*◌, ◌&&◌, nat_lt, length, slice_index}
use Rattle.morris_board.specs.Sets.{has}
use Rattle.morris_index.proofs.Moving.{total}
use Rattle.morris_pairs.specs.Rows.{arrivals, may_close, is_closing_end}
use Rattle.morris_pairs.proofs.rows.Row.of.Given as goal

abbrev pub invariant-loop-to : goal.invariant-loop-to
invariant-loop-to g l = record {
  len : length l.arrivals ≡ 24;
  each : (v : ℕ) → v < l.to → slice_index l.arrivals v ≡ arrivals g.B.Geometry.shape l.own v;
  all : l.all ≡ total (arrivals g.B.Geometry.shape l.own) l.to;
  few : l.all ≤ l.to * 32;
  closers_len : length l.closers ≡ 24;
  closers : (v : ℕ) → v < l.to → (u : ℕ) → has (slice_index l.closers v) u ≡ (has l.own u && is_closing_end g.B.Geometry.shape l.own u v);
  closing : (v : ℕ) → has l.closing v ≡ (nat_lt v l.to && may_close g.B.Geometry.shape l.own v);
}
