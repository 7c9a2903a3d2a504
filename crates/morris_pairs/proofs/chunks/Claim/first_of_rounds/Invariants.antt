use Rattle.std.proofs.Common.{ℕ, ◌<◌, ◌*◌}
use Rattle.morris_pairs.specs.Agreement.{Agrees}
use Rattle.morris_pairs.proofs.chunks.Claim.first_of_rounds.Given as goal

abbrev pub invariant-loop-round : goal.invariant-loop-round
invariant-loop-round g l = record {
  agreed : (k : ℕ) → k < l.count → k < l.round * 4194304 → Agrees g.B.Geometry.shape l.self.raw.now k;
  watched : g.W.Watch.becomes l.fn.watch l.watch;
}
