use Rattle.std.proofs.Common.{◌≡◌, ◌+◌, ◌*◌}
use Rattle.morris_board.specs.Sets.{count_of}
use Rattle.morris_moves.specs.Listing.{AreVacant, AreTargets, stones_to_unmove, backs_left}
use Rattle.morris_moves.proofs.backward.BacksIterator.next.Given as goal

abbrev pub invariant-loop-to : goal.invariant-loop-to
invariant-loop-to g l = record {
  same : backs_left g.B.Geometry.shape l.self-inside.position l.self-inside.from_left l.self-inside.from l.self-inside.to_left ≡ l.fn.self;
  stones : l.self-inside.stones ≡ stones_to_unmove g.B.Geometry.shape l.self-inside.position;
  sources : AreVacant g.B.Geometry.shape l.self-inside.position l.self-inside.from_left;
  ends : AreTargets g.B.Geometry.shape l.self-inside.position l.self-inside.from l.self-inside.to_left;
}

abbrev pub decreases-loop-to : goal.decreases-loop-to
decreases-loop-to g l = 100 * count_of l.self-inside.from_left + count_of l.self-inside.to_left
