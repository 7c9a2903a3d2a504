use Rattle.std.proofs.Common.{◌+◌, take}
use Rattle.morris_wave.specs.Solving.{Marks, among}
use Rattle.morris_wave.specs.Frames.{SameFrame}
use Rattle.morris_wave.proofs.propagate.win_all.Given as goal

abbrev pub invariant-loop-at : goal.invariant-loop-at
invariant-loop-at g l =
    SameFrame l.initial.entries l.entries
    × Marks l.initial.entries.codes l.entries.codes (λ k. among (take l.at (g.B.NodeList.items l.nodes)) (l.initial.entries.first + k)) (l.initial.entries.wave + 1)
