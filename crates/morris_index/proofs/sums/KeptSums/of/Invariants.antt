-- The sums over the stones so far, and what is kept for up to as many stones.
use Rattle.std.proofs.Common.{◌≡◌, ◌+◌, ◌-◌, ◌++◌, length}
use Rattle.morris_board.specs.Sets.{members}
use Rattle.morris_index.specs.Numbering.{number_outside}
use Rattle.morris_index.specs.Sums.{sum_below}
use Rattle.morris_index.proofs.SumLaws.{IsSummed, IsKept}
use Rattle.morris_index.proofs.sums.KeptSums.of.Given as goal

abbrev pub invariant-loop-point : goal.invariant-loop-point
invariant-loop-point l = record {
  split : l.yielded ++ members l.point-iterator ≡ members l.fn.set;
  placed : l.place ≡ length l.yielded;
  rank : IsSummed l.fn.set (number_outside l.outside) 1 l.place l.rank;
  rank_lower : IsSummed l.fn.set (λ p. number_outside l.outside p - (1 - l.moved)) (1 + l.moved) l.place l.rank_lower;
  rank_higher : IsSummed l.fn.set (λ p. number_outside l.outside p + (1 - l.moved)) (1 - l.moved) l.place l.rank_higher;
  lower_len : length l.lower ≡ 10;
  higher_len : length l.higher ≡ 10;
  lower : IsKept l.fn.set (sum_below l.fn.set (number_outside l.outside) 1)
      (sum_below l.fn.set (λ p. number_outside l.outside p - (1 - l.moved)) (1 + l.moved)) l.place l.lower;
  higher : IsKept l.fn.set (sum_below l.fn.set (λ p. number_outside l.outside p + (1 - l.moved)) (1 - l.moved))
      (sum_below l.fn.set (number_outside l.outside) 1) l.place l.higher;
}
