use Rattle.std.proofs.Common.{◌≡◌, ◌-◌}
use Rattle.morris_board.specs.Sets.{count_of}
use Rattle.morris_index.specs.Orbits.{orbit_from}
use Rattle.morris_index.proofs.orbits.FallsOnIterator.next.Given as goal

abbrev pub invariant-loop-self : goal.invariant-loop-self
invariant-loop-self g l = record {
  same : orbit_from g.B.Geometry.shape l.self-inside.position l.self-inside.symmetry ≡ l.fn.self;
  counted : l.self-inside.classes.now ≡ count_of l.self-inside.position.own;
}

abbrev pub decreases-loop-self : goal.decreases-loop-self
decreases-loop-self g l = g.B.Geometry.SYMMETRIES - l.self-inside.symmetry
