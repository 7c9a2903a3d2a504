use Rattle.std.proofs.Common.{◌≡◌, ℕ, ◌<◌, ◌≤◌, true}
use Rattle.morris_board.specs.Positions.{IsPosition}
use Rattle.morris_index.specs.Pairs.{is_of}
use Rattle.morris_pairs.specs.Agreement.{Agrees}
use Rattle.morris_pairs.specs.Entries.{entry_index, has_own_entry}
use Rattle.morris_pairs.specs.Rows.{IsRow}
use Rattle.morris_pairs.proofs.agreeing.first_in.Given as goal

abbrev pub invariant-loop-index : goal.invariant-loop-index
invariant-loop-index g l = record {
  at : l.index < l.end → entry_index g.B.Geometry.shape g.B.Geometry.POINTS l.raw.layout l.raw.pair l.position ≡ l.index;
  counts : is_of l.raw.pair l.position ≡ true;
  lawful : IsPosition g.B.Geometry.shape l.position;
  own : has_own_entry g.B.Geometry.shape l.raw.layout l.position ≡ true;
  row : IsRow g.B.Geometry.shape g.B.Geometry.POINTS l.row;
  same : l.row.own ≡ l.position.own;
  agreed : (k : ℕ) → l.fn.first ≤ k → k < l.index → Agrees g.B.Geometry.shape l.raw k;
}
