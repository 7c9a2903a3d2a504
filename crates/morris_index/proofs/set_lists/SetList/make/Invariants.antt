-- The sets with lesser ranks are listed, and the next one is at hand.
use Rattle.std.proofs.Common.{◌≡◌, ℕ, ◌<◌, length, slice_index}
use Rattle.morris_index.specs.Binomials.{choose}
use Rattle.morris_index.specs.Numbering.{IsRanked}
use Rattle.morris_index.proofs.set_lists.SetList.make.Given as goal

abbrev pub invariant-loop-index : goal.invariant-loop-index
invariant-loop-index l = record {
  len : length l.sets.items ≡ l._index;
  each : (rank : ℕ) → rank < l._index → IsRanked l.points 0 l.count rank (slice_index l.sets.items rank);
  next : l._index < choose l.points l.count → IsRanked l.points 0 l.count l._index l.set;
}
