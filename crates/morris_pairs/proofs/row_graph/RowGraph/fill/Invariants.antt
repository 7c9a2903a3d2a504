use Rattle.std.proofs.Common.{◌≡◌, ◌+◌, ◌-◌, ◌≤◌, length}
use Rattle.morris_index.specs.ClassPairs.{class_half_size}
use Rattle.morris_pairs.specs.RowGraphs.{AreCodesFrom}
use Rattle.morris_pairs.proofs.row_graph.RowGraph.fill.Given as goal

abbrev pub invariant-loop-done : goal.invariant-loop-done
invariant-loop-done g l = record {
  within : l.done ≤ length l.part;
  len : length l.part ≡ length l.initial.part;
  each : AreCodesFrom g.B.Geometry.shape g.B.Geometry.POINTS l.fn.self l.codes
      (class_half_size g.B.Geometry.shape g.B.Geometry.POINTS l.fn.self.greater l.fn.self.lesser + l.start) l.done l.part;
}

abbrev pub decreases-loop-done : goal.decreases-loop-done
decreases-loop-done g l = length l.part - l.done
