-- The sections before the k-th of those with a word for each set are counted.
use Rattle.std.proofs.Common.{◌≡◌, ◌≤◌, ◌+◌, ◌*◌, ◌^◌}
use Rattle.morris_lookup.specs.Prepared.{start_of}
use Rattle.morris_lookup.proofs.prepared.prepared_count.Given as goal

abbrev pub invariant-loop-k : goal.invariant-loop-k
invariant-loop-k g l = record {
  ends : l.end ≡ start_of g.B.Geometry.shape (7 + l.k);
  few : l.end ≤ 2 ^ 27 + l.k * 2 ^ 21;
}
