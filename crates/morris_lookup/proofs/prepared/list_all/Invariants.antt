-- The words are prepared for the lesser numbers of points, where there is room.
use Rattle.std.proofs.Common.{◌≡◌, ◌≤◌, ◌+◌, ◌*◌, ◌^◌, length}
use Rattle.morris_lookup.specs.Prepared.{start_of, IsPreparedTo}
use Rattle.morris_lookup.proofs.prepared.list_all.Given as goal

abbrev pub invariant-loop-k : goal.invariant-loop-k
invariant-loop-k g l = record {
  ends : l.end ≡ start_of g.B.Geometry.shape l.k;
  few : l.end ≤ 13 + l.k * 2 ^ 24;
  prepared : l.end ≤ length l.words → IsPreparedTo g.B.Geometry.shape l.k l.end l.words;
}
