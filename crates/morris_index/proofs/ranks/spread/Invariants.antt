-- The points of `outside` so far are gone through.
use Rattle.std.proofs.Common.{◌≡◌, ℕ, ◌++◌, length}
use Rattle.morris_board.specs.Sets.{has, members}
use Rattle.morris_index.specs.Numbering.{count_below}
use Rattle.morris_index.proofs.Spreading.{IsSpreading}
use Rattle.morris_index.proofs.ranks.spread.Given as goal

abbrev pub invariant-loop-point : goal.invariant-loop-point
invariant-loop-point l = record {
  split : l.yielded ++ members l.point-iterator ≡ members l.fn.outside;
  passed : (b : ℕ) → count_below (has l.fn.outside) b ≡ length l.yielded → IsSpreading l.fn.outside l.fn.numbers b l.spread;
}
