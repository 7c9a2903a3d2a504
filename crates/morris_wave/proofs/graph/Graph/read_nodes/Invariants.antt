use Rattle.std.proofs.Common.{◌≡◌, ℕ, ◌+◌, ◌<◌, length, slice_index}
use Rattle.morris_wave.specs.Exits.{exits_of}
use Rattle.morris_wave.specs.Solving.{exits_at}
use Rattle.morris_wave.proofs.graph.Graph.read_nodes.Given as goal

abbrev pub invariant-loop-place : goal.invariant-loop-place
invariant-loop-place g l = record {
  counts_len : length l.counts ≡ length l.initial.counts;
  exits_len : length l.exits ≡ length l.initial.exits;
  counts : (k : ℕ) → k < l.place → slice_index l.counts k ≡ length ((g.Self.Name.Levels.net (g.Self.Graph.level l.self)).quiet (l.first + k));
  exits : (k : ℕ) → k < l.place → exits_at l.exits k ≡ exits_of ((g.Self.Name.Levels.net (g.Self.Graph.level l.self)).exits (l.first + k));
}
