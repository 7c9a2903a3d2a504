use Rattle.std.proofs.Common.{◌≡◌, ℕ, ◌<◌, length, slice_index}
use Rattle.morris_pairs.specs.Orders.{Rows}
use Rattle.morris_pairs.specs.PairNets.{level_in, net_at}
use Rattle.morris_pairs.specs.RowGraphs.{AreNodesFrom}
use Rattle.morris_pairs.proofs.row_graph.RowGraph.list_nodes.Given as goal

abbrev pub invariant-loop-place : goal.invariant-loop-place
invariant-loop-place g l = record {
  len : length l.nodes ≡ length l.initial.nodes;
  listed : AreNodesFrom g.B.Geometry.shape g.B.Geometry.POINTS l.fn.self l.entries.first l.place l.nodes;
  below : (k : ℕ) → k < l.place → slice_index l.nodes k < (net_at g.B.Geometry.shape (level_in Rows l.fn.self)).size;
}
