use Rattle.std.proofs.Common.{◌≡◌, ◌++◌}
use Rattle.morris_board.specs.Sets.{members}
use Rattle.morris_pairs.specs.Numberings.{layout_before, position_after}
use Rattle.morris_pairs.specs.Predecessors.{unmoves_to, predecessors_of}
use Rattle.morris_pairs.proofs.predecessors.add_all_predecessors.Given as goal

abbrev pub invariant-loop-to : goal.invariant-loop-to
invariant-loop-to g l = record {
  points : l.yielded ++ members l.to-iterator ≡ members l.position.other;
  listed : l.out.items ≡ l.initial.out.items ++ predecessors_of (layout_before l.before) g.B.Geometry.shape g.B.Geometry.POINTS (position_after l.before).pair l.position
      (unmoves_to g.B.Geometry.shape l.position g.B.Geometry.POINTS l.yielded);
}
