use Rattle.std.proofs.Common.{◌≡◌, ℕ, ◌<◌, length, slice_index}
use Rattle.morris_pairs.proofs.row_graph.RowGraph.fill_row.Given as goal

abbrev pub invariant-loop-place : goal.invariant-loop-place
invariant-loop-place g l = record {
  len : length l.part ≡ length l.initial.part;
  written : (k : ℕ) → k < l.place → slice_index l.part k ≡ slice_index l.codes (slice_index l.nodes k);
}
