use Rattle.std.proofs.Common.{◌≡◌, ◌++◌, map}
use Rattle.morris_board.specs.Sets.{members, without_point}
use Rattle.morris_board.specs.Positions.{sides}
use Rattle.morris_moves.specs.Rules.{takable_stones}
use Rattle.morris_wave.specs.Exits.{exits_of}
use Rattle.morris_pairs.specs.Codes.{code_to}
use Rattle.morris_pairs.proofs.captures_by_opponent.exits_to_opponent.Given as goal

abbrev pub invariant-loop-taken : goal.invariant-loop-taken
invariant-loop-taken g l = record {
  points : l.yielded ++ members l.taken-iterator ≡ members (takable_stones g.B.Geometry.shape l.position.other);
  summed : l.exits ≡ exits_of (map (λ t. code_to 65534 g.B.Geometry.shape (sides (without_point l.position.other t) l.opponent_set)) l.yielded);
}
