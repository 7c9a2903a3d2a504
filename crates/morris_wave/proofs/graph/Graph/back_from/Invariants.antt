use Rattle.std.proofs.Common.{◌≡◌, ℕ, ◌<◌, take}
use Rattle.std.specs.List.{All, sum_by}
use Rattle.morris_wave.specs.Nets.{times}
use Rattle.morris_wave.proofs.graph.Graph.back_from.Given as goal

abbrev pub invariant-loop-node : goal.invariant-loop-node
invariant-loop-node g l = record {
  times : (j : ℕ) → j < (g.Self.Name.Levels.net (g.Self.Graph.level l.self)).size
      → times j l.out.items ≡ sum_by (λ i. times i ((g.Self.Name.Levels.net (g.Self.Graph.level l.self)).quiet j)) (take l.node-index l.nodes);
  inside : All (λ j. j < (g.Self.Name.Levels.net (g.Self.Graph.level l.self)).size) l.out.items;
}
