-- The entries of the symmetries so far are added.
use Rattle.std.proofs.Common.{◌≡◌, ◌++◌, map}
use Rattle.morris_board.specs.Sets.{members}
use Rattle.morris_board.specs.Symmetries.{image_sides}
use Rattle.morris_index.specs.ClassPairs.{class_index_of}
use Rattle.morris_index.specs.Moves.{unmove_sides}
use Rattle.morris_index.proofs.predecessor_entries.PredecessorEntries.add.Given as goal

abbrev pub invariant-loop-symmetry : goal.invariant-loop-symmetry
invariant-loop-symmetry g l = record {
  split : l.yielded ++ members l.symmetry-iterator ≡ members l.initial.symmetry-iterator;
  added : l.out.items
      ≡ l.fn.out.items
      ++ map (λ s. class_index_of g.B.Geometry.shape g.B.Geometry.POINTS l.fn.self.pair (image_sides (g.B.Geometry.shape.image s) (unmove_sides l.fn.self.position l.fn.from l.fn.to))) l.yielded;
}
