use Rattle.std.proofs.Common.{take}
use Rattle.std.specs.List.{All}
use Rattle.morris_pairs.specs.OpponentGroups.{EntryAgrees}
use Rattle.morris_pairs.specs.CaptureCaches.{IsCaptureCache, codes_by_opponent}
use Rattle.morris_pairs.proofs.by_result.all_agree.Given as goal

abbrev pub invariant-loop-place : goal.invariant-loop-place
invariant-loop-place g l = record {
  agreed : All (EntryAgrees g.B.Geometry.shape l.raw) (take l.place l.group);
  cache : IsCaptureCache (codes_by_opponent g.B.Geometry.shape) l.cache;
}
