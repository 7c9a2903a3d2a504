use Rattle.std.proofs.Common.{◌≡◌, ◌-◌, length}
use Rattle.std.specs.List.{Contains}
use Rattle.std.specs.Prelude.{IfSome}
use Rattle.morris_moves.specs.Rules.{moves_of}
use Rattle.morris_queries.specs.Folders.{Stays, HoldsFor}
use Rattle.morris_queries.specs.Reports.{reported_line}
use Rattle.morris_queries.proofs.TellingLaws.{prepended}
use Rattle.morris_queries.proofs.values.Folder.play_out.Given as goal

-- the list has the plies so far; where the files are known, the whole line is the list and what
-- follows from here by the next move
abbrev pub invariant-loop : goal.invariant-loop
invariant-loop g l = record {
  few : length l.line.items ≡ l.counter;
  stays : Stays g.B.Geometry.shape g.L.Library.files l.initial.self l.self;
  legal : IfSome l.next (Contains (moves_of g.B.Geometry.shape l.here));
  reported : HoldsFor g.B.Geometry.shape g.L.Library.files l.initial.self (λ name files.
      reported_line g.B.Geometry.shape name files l.plies l.position l.fn.first
      ≡ prepended l.line.items (reported_line g.B.Geometry.shape name files (l.plies - l.counter) l.here l.next));
}
