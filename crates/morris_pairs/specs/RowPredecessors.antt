-- The predecessors of many nodes of a graph by rows.
use Rattle.std.specs.Prelude.{◌≡◌, ℕ, ◌*◌, ◌<◌, ◌≤◌, List, length}
use Rattle.std.specs.List.{All, sum_by}
use Rattle.morris_board.specs.Boards.{Shape}
use Rattle.morris_index.specs.Pairs.{Counts}
use Rattle.morris_wave.specs.Nets.{times}
use Rattle.morris_pairs.specs.Orders.{Rows, count_in}
use Rattle.morris_pairs.specs.PairNets.{net_in}

-- `listed` are the predecessors of `nodes`, on n points, each as often as a quiet move leads from
-- it to one of them; these are at most 65,535 for each of `nodes`
pub record ArePredecessors (board : Shape) (n : ℕ) (c : Counts) (nodes listed : List ℕ) : Type 0 where
  pub often : (j : ℕ) → j < count_in board n Rows c → times j listed ≡ sum_by (λ i. times i ((net_in board Rows c).quiet j)) nodes
  pub inside : All (λ j. j < count_in board n Rows c) listed
  pub few : length listed ≤ 65535 * length nodes
