use Rattle.std.proofs.Common.{◌≡◌, ℕ, ◌<◌, ◌≤◌, ◌++◌, List, length, slice_index}
use Rattle.std.specs.Slice.Iter.{chunks_rest, chunks_size}
use Rattle.morris_wave.specs.Gaps.{numbers_reported, next_reported}
use Rattle.morris_wave.specs.GapLists.{nodes_of}
use Rattle.morris_wave.specs.Counts.{counts_of, most_of}
use Rattle.morris_wave.specs.NodeRanges.{Takes}
use Rattle.morris_wave.specs.Frames.{SameFrame}
use Rattle.morris_wave.proofs.propagate.take_in_due.Given as goal

abbrev pub invariant-loop-gaps : goal.invariant-loop-gaps
invariant-loop-gaps g l =
    (goal.iterator-loop-gaps g).can_next l.gaps-iterator
    × (goal.iterator-loop-gaps g).is_finite l.gaps-iterator
    × (chunks_size l.gaps-iterator ≡ 256)
    × SameFrame l.initial.entries l.entries
    × (length (counts_of l.counters) ≡ length (counts_of l.initial.counters))
    × (most_of l.counters ≡ most_of l.initial.counters)
    × ((k : ℕ) → k < length (counts_of l.counters) → slice_index (counts_of l.counters) k < 65536)
    × (256 ≤ g.L.NodeList.capacity l.piece)
    × (next_reported l.next (chunks_rest l.gaps-iterator) ≡ l.due.next)
    × (done : List ℕ) × (nodes_of l.due ≡ done ++ numbers_reported l.next (chunks_rest l.gaps-iterator))
    × Takes l.initial.entries.wave l.initial.entries.first done l.initial.entries.codes l.entries.codes (counts_of l.initial.counters) (counts_of l.counters)
