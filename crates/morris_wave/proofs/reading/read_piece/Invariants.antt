use Rattle.std.proofs.Common.{◌+◌}
use Rattle.morris_wave.specs.NodeRanges.{HasRead}
use Rattle.morris_wave.specs.Frames.{SameFrame}
use Rattle.morris_wave.proofs.reading.read_piece.Given as goal

abbrev pub invariant-loop-place : goal.invariant-loop-place
invariant-loop-place g l = record {
  frame : SameFrame l.initial.reading.entries l.reading.entries;
  read : HasRead (g.G.Name.Levels.net (g.G.Graph.level l.graph)) g.C.CounterList.most l.initial.reading.entries.first (l.from + l.place) l.reading.entries.codes (g.C.CounterList.counts l.reading.counters) l.reading.waves.items l.reading.last_due;
}
