-- A graph with exits: what a level of a family of graphs stands for.
use Rattle.std.specs.Prelude.{ℕ, ◌<◌, ◌≤◌, ◌^◌, List, length, ◌==◌}
use Rattle.std.specs.List.{All, count_by}

-- Nodes 0, 1, .. below the size. A node's results are its quiet results, which are nodes again, and
-- its exits, which are results outside of the graph and known by their codes alone. A code is 0 for
-- a draw and one more than the depth for a win or a loss, so an odd code is lost and an even one
-- above 0 won.
pub record Net : Type 0 where
  pub size : ℕ
  pub quiet : ℕ → List ℕ
  pub exits : ℕ → List ℕ

-- the laws of a graph: quiet results are nodes, and the numbers are within the limits
pub record IsNet (g : Net) : Type 0 where
  pub small : g.size ≤ 2 ^ 40
  pub inside : (i : ℕ) → i < g.size → All (λ j. j < g.size) (g.quiet i)
  pub few : (i : ℕ) → i < g.size → length (g.quiet i) ≤ 65535
  pub codes : (i : ℕ) → i < g.size → All (λ c. c ≤ 65535) (g.exits i)

-- how often a number stands in a list
abbrev pub times : ℕ → List ℕ → ℕ
times i xs = count_by (λ x. x == i) xs
