use Rattle.std.proofs.Common.{◌≡◌, ◌++◌}
use Rattle.morris_board.specs.Sets.{members}
use Rattle.morris_wave.specs.Exits.{exits_of}
use Rattle.morris_pairs.specs.CaptureCaches.{IsCaptureCache, open_ends, codes_at, codes_by_opponent}
use Rattle.morris_pairs.proofs.graph.PairGraph.exits_by_opponent.Given as goal

abbrev pub invariant-loop-to : goal.invariant-loop-to
invariant-loop-to g l = record {
  points : l.yielded ++ members l.to-iterator ≡ members (open_ends g.B.Geometry.shape l.position.own l.position.other);
  cache : IsCaptureCache (codes_by_opponent g.B.Geometry.shape) l.cache;
  summed : l.exits ≡ exits_of (codes_at g.B.Geometry.shape l.position l.yielded);
}
