use Rattle.std.proofs.Common.{◌≡◌, ◌+◌, ◌*◌, ◌<◌, ◌^◌}
use Rattle.morris_board.specs.Sets.{count_of}
use Rattle.morris_moves.specs.Listing.{moves_left}
use Rattle.morris_moves.proofs.list.MovesIterator.next.Given as goal

abbrev pub invariant-loop-taken : goal.invariant-loop-taken
invariant-loop-taken g l = record {
  same : moves_left g.B.Geometry.shape l.self-inside.position l.self-inside.from_left l.self-inside.from l.self-inside.to_left l.self-inside.to
      l.self-inside.take_left ≡ l.fn.self;
  stones : l.self-inside.from_left < 2 ^ g.B.Geometry.POINTS;
  stone : l.self-inside.from < 32;
  ends : l.self-inside.to_left < 2 ^ g.B.Geometry.POINTS;
}

abbrev pub decreases-loop-taken : goal.decreases-loop-taken
decreases-loop-taken g l =
    10000 * count_of l.self-inside.from_left + (100 * count_of l.self-inside.to_left + count_of l.self-inside.take_left)
