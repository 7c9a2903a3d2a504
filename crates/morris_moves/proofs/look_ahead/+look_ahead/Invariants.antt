use Rattle.std.proofs.Common.{◌≡◌, ◌-◌, ◌++◌, true, false}
use Rattle.std.specs.List.{list_all, list_any}
use Rattle.morris_moves.specs.Rules.{moves_of, result_of}
use Rattle.morris_moves.specs.Values.{is_lost, is_won}
use Rattle.morris_moves.proofs.look_ahead.+look_ahead.Given as goal

abbrev pub decreases-is_lost : goal.decreases-is_lost
decreases-is_lost g l = l.plies

abbrev pub decreases-is_won : goal.decreases-is_won
decreases-is_won g l = l.plies

abbrev pub invariant-is_lost-loop-m : goal.invariant-is_lost-loop-m
invariant-is_lost-loop-m g l = record {
  listed : l.yielded ++ l.m-iterator ≡ moves_of g.B.Geometry.shape l.position;
  so_far : list_all (λ m. is_won (l.plies - 1) g.B.Geometry.shape (result_of l.position m)) l.yielded ≡ true;
}

abbrev pub invariant-is_won-loop-m : goal.invariant-is_won-loop-m
invariant-is_won-loop-m g l = record {
  listed : l.yielded ++ l.m-iterator ≡ moves_of g.B.Geometry.shape l.position;
  so_far : list_any (λ m. is_lost (l.plies - 1) g.B.Geometry.shape (result_of l.position m)) l.yielded ≡ false;
}
