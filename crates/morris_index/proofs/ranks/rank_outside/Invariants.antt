-- The points so far are summed up.
use Rattle.std.proofs.Common.{◌≡◌, ◌++◌, length}
use Rattle.morris_board.specs.Sets.{members}
use Rattle.morris_index.specs.Numbering.{number_outside}
use Rattle.morris_index.proofs.SumLaws.{IsSummed}
use Rattle.morris_index.proofs.ranks.rank_outside.Given as goal

abbrev pub invariant-loop-point : goal.invariant-loop-point
invariant-loop-point l = record {
  split : l.yielded ++ members l.point-iterator ≡ members l.fn.set;
  placed : l.place ≡ length l.yielded;
  rank : IsSummed l.fn.set (number_outside l.outside) 1 (length l.yielded) l.rank;
}
