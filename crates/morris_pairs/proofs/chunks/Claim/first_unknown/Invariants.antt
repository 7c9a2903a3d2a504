use Rattle.std.proofs.Common.{◌≡◌, ◌-◌, vec_len}
use Rattle.morris_pairs.specs.Chunks.{AreMarked}
use Rattle.morris_pairs.proofs.chunks.Claim.first_unknown.Given as goal

abbrev pub invariant-loop-worker : goal.invariant-loop-worker
invariant-loop-worker g l = record {
  marked : AreMarked g.B.Geometry.shape g.B.Geometry.POINTS l.self.raw.now l.grouping l.first l.marks.items;
  len : vec_len l.marks ≡ l.end - l.first;
}
