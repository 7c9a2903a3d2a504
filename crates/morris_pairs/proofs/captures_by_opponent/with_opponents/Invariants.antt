use Rattle.std.proofs.Common.{◌≡◌, ℕ, ◌++◌, List}
use Rattle.morris_board.specs.Sets.{members}
use Rattle.morris_wave.specs.Exits.{exits_of}
use Rattle.morris_pairs.specs.CaptureCaches.{IsCaptureCache, codes_by, codes_by_opponent}
use Rattle.morris_pairs.proofs.captures_by_opponent.with_opponents.Given as goal

abbrev pub invariant-loop-from : goal.invariant-loop-from
invariant-loop-from g l = record {
  points : l.yielded ++ members l.from-iterator ≡ members l.fn.closers;
  cache : IsCaptureCache (codes_by_opponent g.B.Geometry.shape) l.cache;
  summed : (codes : List ℕ) → l.fn.known ≡ exits_of codes → l.exits ≡ exits_of (codes ++ codes_by g.B.Geometry.shape l.position l.to l.yielded);
}
