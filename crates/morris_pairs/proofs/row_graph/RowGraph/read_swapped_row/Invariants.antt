use Rattle.std.proofs.Common.{◌≡◌, ℕ, ◌+◌, ◌<◌, length, slice_index}
use Rattle.morris_index.specs.ClassPairs.{class_half_size}
use Rattle.morris_wave.specs.Exits.{exits_of}
use Rattle.morris_wave.specs.Solving.{exits_at}
use Rattle.morris_pairs.specs.CaptureCaches.{IsCaptureCache, codes_by_opponent}
use Rattle.morris_pairs.specs.Orders.{Rows}
use Rattle.morris_pairs.specs.PairNets.{level_in, net_at}
use Rattle.morris_pairs.proofs.row_graph.RowGraph.read_swapped_row.Given as goal

abbrev pub invariant-loop-place : goal.invariant-loop-place
invariant-loop-place g l = record {
  counts_len : length l.counts ≡ length l.initial.counts;
  exits_len : length l.exits ≡ length l.initial.exits;
  cache : IsCaptureCache (codes_by_opponent g.B.Geometry.shape) l.cache;
  quiet : (k : ℕ) → k < l.place → slice_index l.counts k ≡ length ((net_at g.B.Geometry.shape (level_in Rows l.fn.self)).quiet (class_half_size g.B.Geometry.shape g.B.Geometry.POINTS l.fn.self.greater l.fn.self.lesser + (l.entries.first + k)));
  outside : (k : ℕ) → k < l.place → exits_at l.exits k ≡ exits_of ((net_at g.B.Geometry.shape (level_in Rows l.fn.self)).exits (class_half_size g.B.Geometry.shape g.B.Geometry.POINTS l.fn.self.greater l.fn.self.lesser + (l.entries.first + k)));
}
