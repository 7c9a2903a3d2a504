use Rattle.std.proofs.Common.{◌≡◌, ◌≤◌, ◌++◌, None, length, map, vec_capacity}
use Rattle.std.specs.List.{Contains}
use Rattle.morris_moves.specs.declared.game_move.Move.{Move}
use Rattle.morris_moves.specs.Rules.{moves_of, result_of}
use Rattle.morris_lookup.specs.declared.outcomes.Outcome.{Outcome}
use Rattle.morris_lookup.specs.FileSets.{missing_file}
use Rattle.morris_lookup.specs.Outcomes.{IsOutcome}
use Rattle.morris_lookup.proofs.outcomes.outcomes.Given as goal

-- the list has the outcomes of the moves so far, whose files are open, the iterator has the other
-- moves, and there is room for as many outcomes as there are moves
abbrev pub invariant-loop-m : goal.invariant-loop-m
invariant-loop-m g l = record {
  listed : l.yielded ++ l.m-iterator ≡ moves_of g.B.Geometry.shape l.position;
  steps : map (λ (o : Outcome). o.step) l.outcomes.items ≡ l.yielded;
  reported : (o : Outcome) → Contains l.outcomes.items o → IsOutcome g.B.Geometry.shape l.tables l.position o;
  found : (m : Move) → Contains l.yielded m → missing_file l.tables (result_of l.position m) ≡ None;
  few : length l.outcomes.items ≡ length l.yielded;
  room : length (moves_of g.B.Geometry.shape l.position) ≤ vec_capacity l.outcomes;
}
