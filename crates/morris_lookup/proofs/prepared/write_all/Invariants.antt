-- The words are prepared for the sets of the lesser numbers of points.
use Rattle.std.proofs.Common.{◌≤◌, ◌+◌, ◌*◌, ◌^◌}
use Rattle.morris_lookup.specs.Prepared.{IsPreparedTo}
use Rattle.morris_lookup.proofs.prepared.write_all.Given as goal

abbrev pub invariant-loop-k : goal.invariant-loop-k
invariant-loop-k g l = record {
  prepared : IsPreparedTo g.B.Geometry.shape (7 + l.k) l.end l.words;
  few : l.end ≤ 2 ^ 27 + l.k * 2 ^ 21;
}
