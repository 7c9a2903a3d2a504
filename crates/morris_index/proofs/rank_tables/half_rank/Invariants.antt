-- The points so far are summed up.
use Rattle.std.proofs.Common.{◌≡◌, ◌+◌, ◌*◌, ◌++◌, length}
use Rattle.morris_board.specs.Sets.{members}
use Rattle.morris_index.proofs.SumLaws.{IsSummed}
use Rattle.morris_index.proofs.rank_tables.half_rank.Given as goal

abbrev pub invariant-loop-point : goal.invariant-loop-point
invariant-loop-point l = record {
  split : l.yielded ++ members l.point-iterator ≡ members l.fn.points;
  placed : l.placed ≡ l.fn.place + length l.yielded;
  rank : IsSummed l.fn.points (λ i. 12 * l.fn.half + i) (l.fn.place + 1) (length l.yielded) l.rank;
}
