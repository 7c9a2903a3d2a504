use Rattle.std.proofs.Common.{◌≡◌, ℕ, ◌+◌, ◌<◌, length, slice_index}
use Rattle.morris_wave.specs.Exits.{exits_of}
use Rattle.morris_wave.specs.Solving.{exits_at}
use Rattle.morris_pairs.specs.declared.layout.Layout.TheVariants.{Classes}
use Rattle.morris_pairs.specs.CaptureCaches.{IsCaptureCache, codes_left}
use Rattle.morris_pairs.specs.PairNets.{level_of, net_at}
use Rattle.morris_pairs.proofs.row_reading.read_row.Given as goal

abbrev pub invariant-loop-place : goal.invariant-loop-place
invariant-loop-place g l = record {
  counts_len : length l.counts ≡ length l.initial.counts;
  exits_len : length l.exits ≡ length l.initial.exits;
  cache : IsCaptureCache (codes_left g.B.Geometry.shape) l.cache;
  quiet : (k : ℕ) → k < l.place → slice_index l.counts k ≡ length ((net_at g.B.Geometry.shape (level_of Classes l.graph)).quiet (l.entries.first + k));
  outside : (k : ℕ) → k < l.place → exits_at l.exits k ≡ exits_of ((net_at g.B.Geometry.shape (level_of Classes l.graph)).exits (l.entries.first + k));
}
