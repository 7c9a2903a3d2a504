use Rattle.std.proofs.Common.{◌≡◌, false}
use Rattle.morris_wave.specs.Values.{IsTooDeep}
use Rattle.morris_workers.proofs.wave.Site.survey.Given as goal

abbrev pub invariant-loop-number : goal.invariant-loop-number
invariant-loop-number g l = l.settled ≡ false → l.wave ≡ 65534 → IsTooDeep (g.G.Name.Levels.net (g.G.Graph.level l.self.graph.now))
