use Rattle.std.proofs.Common.{◌≡◌, ℕ, ◌+◌, ◌<◌, ◌&&◌, eqb, length, take, slice_index}
use Rattle.morris_wave.specs.Solving.{Marks, among}
use Rattle.morris_wave.specs.NodeRanges.{LowersBy}
use Rattle.morris_wave.specs.Frames.{SameFrame}
use Rattle.morris_wave.proofs.propagate.lower_all.Given as goal

abbrev pub invariant-loop-at : goal.invariant-loop-at
invariant-loop-at g l =
    SameFrame l.initial.entries l.entries
    × (length (g.C.CounterList.counts l.counters) ≡ length (g.C.CounterList.counts l.initial.counters))
    × LowersBy (λ k. l.initial.entries.first + k) (g.C.CounterList.counts l.initial.counters) (g.C.CounterList.counts l.counters) (take l.at (g.B.NodeList.items l.nodes))
    × Marks l.initial.entries.codes l.entries.codes (λ k. among (take l.at (g.B.NodeList.items l.nodes)) (l.initial.entries.first + k) && eqb (slice_index (g.C.CounterList.counts l.counters) k) 0) (l.initial.entries.wave + 1)
    × ((k : ℕ) → k < length (g.C.CounterList.counts l.counters) → slice_index (g.C.CounterList.counts l.counters) k < 65536)
