use Rattle.std.proofs.Common.{◌≡◌, ◌≤◌, ◌-◌, drop, take}
use Rattle.morris_wave.specs.Solving.{among}
use Rattle.morris_wave.specs.NodeRanges.{NodeRangeHolds}
use Rattle.morris_wave.specs.Counts.{counts_of, most_of}
use Rattle.morris_wave.specs.Frames.{SameFrame}
use Rattle.morris_wave.proofs.sweeping.spread.Given as goal

abbrev pub invariant-loop-place : goal.invariant-loop-place
invariant-loop-place g l =
    SameFrame l.initial.whole.entries l.whole.entries
    × (l.initial.whole.entries.before ≤ l.place)
    × NodeRangeHolds (g.G.Name.Levels.net (g.G.Graph.level l.graph)) l.initial.whole.entries.wave
    (among (take (l.place - l.initial.whole.entries.before) (take (l.initial.whole.entries.here - l.initial.whole.entries.before) (drop l.initial.whole.entries.before (g.L.NodeList.items l.initial.whole.entries.decided))))) 0
    l.whole.entries.codes (counts_of l.whole.counters) l.whole.due l.whole.last_due
    × (most_of l.whole.counters ≡ most_of l.initial.whole.counters)
