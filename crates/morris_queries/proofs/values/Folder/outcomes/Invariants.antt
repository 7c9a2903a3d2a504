use Rattle.std.proofs.Common.{◌≡◌, ◌++◌, map}
use Rattle.morris_moves.specs.Rules.{moves_of}
use Rattle.morris_lookup.specs.declared.outcomes.Outcome.{Outcome}
use Rattle.morris_queries.specs.Folders.{Stays, HoldsFor}
use Rattle.morris_queries.specs.Reports.{reported_outcomes}
use Rattle.morris_queries.proofs.TellingLaws.{prepended}
use Rattle.morris_queries.proofs.values.Folder.outcomes.Given as goal

-- the list has what the moves so far lead to, and the iterator has the other moves; where the files
-- are known, what all moves lead to is the list and what the others do
abbrev pub invariant-loop-m : goal.invariant-loop-m
invariant-loop-m g l = record {
  listed : l.yielded ++ l.m-iterator ≡ moves_of g.B.Geometry.shape l.position;
  steps : map (λ (o : Outcome). o.step) l.outcomes.items ≡ l.yielded;
  stays : Stays g.B.Geometry.shape g.L.Library.files l.initial.self l.self;
  reported : HoldsFor g.B.Geometry.shape g.L.Library.files l.initial.self (λ name files.
      reported_outcomes g.B.Geometry.shape name files l.position (moves_of g.B.Geometry.shape l.position)
      ≡ prepended l.outcomes.items (reported_outcomes g.B.Geometry.shape name files l.position l.m-iterator));
}
