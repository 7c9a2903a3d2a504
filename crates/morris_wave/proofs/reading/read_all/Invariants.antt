use Rattle.std.proofs.Common.{◌≡◌, ◌*◌, length, min}
use Rattle.morris_wave.specs.NodeRanges.{HasRead}
use Rattle.morris_wave.specs.Frames.{SameFrame}
use Rattle.morris_wave.proofs.reading.read_all.Given as goal

abbrev pub invariant-loop-piece : goal.invariant-loop-piece
invariant-loop-piece g l = record {
  frame : SameFrame l.initial.reading.entries l.reading.entries;
  counts_len : length l.counts ≡ 16384;
  exits_len : length l.exits ≡ 16384;
  read : HasRead (g.G.Name.Levels.net (g.G.Graph.level l.graph)) g.C.CounterList.most l.initial.reading.entries.first (min (l.piece * 16384) (length l.initial.reading.entries.codes)) l.reading.entries.codes (g.C.CounterList.counts l.reading.counters) l.reading.waves.items l.reading.last_due;
}
