-- The classes of the sets with lesser ranks are counted, and the next set is at hand.
use Rattle.std.proofs.Common.{◌<◌}
use Rattle.morris_index.specs.Binomials.{choose}
use Rattle.morris_index.specs.Numbering.{IsRanked}
use Rattle.morris_index.proofs.ClassCounts.{IsCounted}
use Rattle.morris_index.proofs.class_sizes.class_count.Given as goal

abbrev pub invariant-loop : goal.invariant-loop
invariant-loop g l = record {
  counted : IsCounted g.B.Geometry.shape g.B.Geometry.POINTS l.fn.count l.counter l.classes;
  next : l.counter < choose g.B.Geometry.POINTS l.fn.count → IsRanked g.B.Geometry.POINTS 0 l.fn.count l.counter l.set;
}
