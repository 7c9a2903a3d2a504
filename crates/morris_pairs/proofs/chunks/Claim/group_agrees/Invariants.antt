use Rattle.std.proofs.Common.{ℕ, ◌<◌, ◌*◌}
use Rattle.morris_pairs.specs.OpponentGroups.{GroupAgrees}
use Rattle.morris_pairs.proofs.chunks.Claim.group_agrees.Given as goal

abbrev pub invariant-loop-round : goal.invariant-loop-round
invariant-loop-round g l = record {
  agreed : (k : ℕ) → k < l.count → k < l.round * 4194304 → GroupAgrees g.B.Geometry.shape l.self.raw.now k;
  watched : g.W.Watch.becomes l.fn.watch l.watch;
}
