use Rattle.std.proofs.Common.{◌≡◌, length}
use Rattle.morris_workers.proofs.wave.Site.take.Given as goal

abbrev pub decreases-loop-fresh : goal.decreases-loop-fresh
decreases-loop-fresh g l = length l.fresh.nodes

abbrev pub invariant-loop-fresh : goal.invariant-loop-fresh
invariant-loop-fresh g l = g.G.Graph.level l.self.graph.now ≡ l.fresh.level
