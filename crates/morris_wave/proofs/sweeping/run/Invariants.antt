use Rattle.std.proofs.Common.{◌≡◌}
use Rattle.morris_wave.specs.Solving.{every}
use Rattle.morris_wave.specs.Frames.{IsWhole}
use Rattle.morris_wave.proofs.sweeping.run.Given as goal

abbrev pub invariant-loop-done : goal.invariant-loop-done
invariant-loop-done g l =
    (l.whole.entries.wave ≡ l.done)
    × IsWhole (g.G.Name.Levels.net (g.G.Graph.level l.graph)) every l.whole
    × g.W.Watch.becomes l.initial.watch l.watch
