use Rattle.std.proofs.Common.{◌≡◌, ℕ, ◌+◌, ◌<◌, true, length, slice_index}
use Rattle.morris_board.specs.Positions.{IsPosition}
use Rattle.morris_index.specs.Pairs.{is_of, index_of}
use Rattle.morris_wave.specs.Exits.{exits_of}
use Rattle.morris_wave.specs.Solving.{exits_at}
use Rattle.morris_pairs.specs.declared.layout.Layout.TheVariants.{Full}
use Rattle.morris_pairs.specs.PairNets.{level_of, net_at}
use Rattle.morris_pairs.specs.Rows.{IsRow}
use Rattle.morris_pairs.proofs.graph.PairGraphGraph.read_nodes.Given as goal

abbrev pub invariant-loop-place : goal.invariant-loop-place
invariant-loop-place g l = record {
  counts_len : length l.counts ≡ length l.initial.counts;
  exits_len : length l.exits ≡ length l.initial.exits;
  quiet : (k : ℕ) → k < l.place → slice_index l.counts k ≡ length ((net_at g.B.Geometry.shape (level_of Full l.fn.self)).quiet (l.first + k));
  outside : (k : ℕ) → k < l.place → exits_at l.exits k ≡ exits_of ((net_at g.B.Geometry.shape (level_of Full l.fn.self)).exits (l.first + k));
  at : l.place < length l.counts → index_of g.B.Geometry.POINTS l.fn.self l.position ≡ l.first + l.place;
  counts : is_of l.fn.self l.position ≡ true;
  lawful : IsPosition g.B.Geometry.shape l.position;
  row : IsRow g.B.Geometry.shape g.B.Geometry.POINTS l.row;
  own : l.row.own ≡ l.position.own;
}
