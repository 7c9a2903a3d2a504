use Rattle.std.proofs.Common.{◌≡◌, ◌++◌, ◌<◌, ◌^◌}
use Rattle.std.specs.List.{sum_by}
use Rattle.morris_index.specs.Pairs.{below_of}
use Rattle.morris_jobs.specs.Sizes.{entries_of}
use Rattle.morris_jobs.proofs.size.Size.of.Given as goal

-- the entries of the pairs so far are counted, and the iterator has the others
abbrev pub invariant-loop-below : goal.invariant-loop-below
invariant-loop-below g l = record {
  split : l.yielded ++ l.below-iterator ≡ below_of l.fn.pair;
  counted : sum_by (entries_of g.B.Geometry.shape g.B.Geometry.POINTS l.fn.layout l.fn.pair l.fn.plan) l.yielded < 2 ^ 64
      → l.size.entries ≡ sum_by (entries_of g.B.Geometry.shape g.B.Geometry.POINTS l.fn.layout l.fn.pair l.fn.plan) l.yielded;
}
