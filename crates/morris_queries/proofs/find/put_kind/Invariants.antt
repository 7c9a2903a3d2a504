use Rattle.std.proofs.Common.{◌≡◌, ◌-◌, ◌*◌, ◌≤◌, List, length}
use Rattle.std.specs.Prelude.{IfSome}
use Rattle.morris_board.specs.Positions.{Sides}
use Rattle.morris_pairs.specs.Counting.{table_of}
use Rattle.morris_pairs.specs.Entries.{entry_index}
use Rattle.morris_board.specs.Printers.{Takes}
use Rattle.morris_queries.specs.Found.{AreFound, IsStated, found_text}
use Rattle.morris_queries.proofs.FoundLaws.{asked_below}
use Rattle.morris_queries.proofs.find.put_kind.Given as goal

-- the strings of the positions that are found among the entries so far went in
abbrev pub invariant-loop-entry : goal.invariant-loop-entry
invariant-loop-entry g l = record {
  stays : l.entries ≡ l.initial.entries;
  found : (positions : List Sides) × (length positions ≤ 16 * l.entry)
      × Takes g.S.Sink.contents g.S.Sink.failures l.initial.out l.out (found_text g.B.Geometry.shape positions)
      × (l.left ≡ l.most - length positions)
      × IfSome l.initial.entries.stated (λ known.
      AreFound (asked_below (IsStated g.B.Geometry.shape (table_of l.initial.entries known) l.all l.kind)
      (entry_index g.B.Geometry.shape g.B.Geometry.shape.points l.initial.entries.layout l.initial.entries.pair) l.most l.entry)
      (entry_index g.B.Geometry.shape g.B.Geometry.shape.points l.initial.entries.layout l.initial.entries.pair) l.most positions);
}
