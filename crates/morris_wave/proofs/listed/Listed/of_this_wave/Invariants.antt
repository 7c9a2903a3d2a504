use Rattle.std.proofs.Common.{◌≡◌, ◌≤◌, ◌-◌, take, drop}
use Rattle.morris_wave.proofs.listed.Listed.of_this_wave.Given as goal

abbrev pub invariant-loop-place : goal.invariant-loop-place
invariant-loop-place g l = (l.self.before ≤ l.place) × (l.nodes.items ≡ take (l.place - l.self.before) (drop l.self.before (g.L.NodeList.items l.self.decided)))
