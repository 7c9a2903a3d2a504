-- The positions of the symmetries so far are added.
use Rattle.std.proofs.Common.{◌≡◌, ◌++◌, map}
use Rattle.morris_board.specs.Sets.{members}
use Rattle.morris_board.specs.Symmetries.{image_sides}
use Rattle.morris_index.specs.ByOpponent.{swap_sides}
use Rattle.morris_index.specs.Moves.{in_pair}
use Rattle.morris_index.proofs.by_opponent.OpponentGroup.add.Given as goal

abbrev pub invariant-loop-symmetry : goal.invariant-loop-symmetry
invariant-loop-symmetry g l = record {
  split : l.yielded ++ members l.symmetry-iterator ≡ members l.initial.symmetry-iterator;
  added : l.out.items ≡ l.fn.out.items ++ map (λ s. in_pair l.fn.self.pair (image_sides (g.B.Geometry.shape.image s) (swap_sides l.fn.position))) l.yielded;
}
