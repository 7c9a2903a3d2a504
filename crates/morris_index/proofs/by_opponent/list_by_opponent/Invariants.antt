-- The members that the entries so far give are listed, and the next position is at hand.
use Rattle.std.proofs.Common.{◌≡◌, ◌<◌, true}
use Rattle.morris_board.specs.Positions.{IsPosition}
use Rattle.morris_index.specs.Classes.{representative_of}
use Rattle.morris_index.specs.ClassPairs.{class_index_of}
use Rattle.morris_index.specs.ByOpponent.{AreByOpponent}
use Rattle.morris_index.specs.Pairs.{is_of}
use Rattle.morris_index.proofs.by_opponent.list_by_opponent.Given as goal

abbrev pub invariant-loop-entry : goal.invariant-loop-entry
invariant-loop-entry g l = record {
  at : l.entry < l.end → class_index_of g.B.Geometry.shape g.B.Geometry.POINTS l.pair l.position ≡ l.entry;
  counts : is_of l.pair l.position ≡ true;
  lawful : IsPosition g.B.Geometry.shape l.position;
  own : representative_of g.B.Geometry.shape l.position.own ≡ l.position.own;
  pair : l.by_opponent.pair ≡ l.pair;
  same : l.position.own ≡ l.by_opponent.position.own;
  listed : AreByOpponent g.B.Geometry.shape g.B.Geometry.POINTS l.pair l.fn.first l.entry l.out.items;
}
