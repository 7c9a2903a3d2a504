use Rattle.std.proofs.Common.{◌≡◌, ℕ, ◌<◌, get_or}
use Rattle.morris_board.specs.Positions.{letter, sides}
use Rattle.morris_board.proofs.position.Position.write_to.Given as goal

abbrev pub invariant-loop-point : goal.invariant-loop-point
invariant-loop-point g l = (k : ℕ) → k < l.point → get_or l.out k 0 ≡ letter (sides l.self-inside.own l.self-inside.other) k
