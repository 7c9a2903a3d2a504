use Rattle.std.proofs.Common.{◌≡◌, ◌++◌, map}
use Rattle.morris_board.specs.Sets.{members}
use Rattle.morris_index.specs.Pairs.{index_of}
use Rattle.morris_index.specs.Moves.{unmove_sides}
use Rattle.morris_index.proofs.predecessors.PredecessorIndices.add_from.Given as goal

abbrev pub invariant-loop-from : goal.invariant-loop-from
invariant-loop-from g l = record {
  split : l.yielded ++ members l.from-iterator ≡ members l.fn.sources;
  added : l.out.items ≡ l.fn.out.items ++ map (λ u. index_of g.B.Geometry.POINTS l.fn.self.pair (unmove_sides l.fn.self.position u l.fn.to)) l.yielded;
}
