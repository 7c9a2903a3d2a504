-- The sums so far stand in the order of the rows and the halves.
use Rattle.std.proofs.Common.{◌≡◌, ℕ, ◌-◌, ◌/◌, ◌%◌, ◌<◌, ◌≤◌, get_or, vec_len}
use Rattle.morris_board.specs.Sets.{has}
use Rattle.morris_index.specs.Parts.{part_rank}
use Rattle.morris_index.proofs.RankLaws.{count_below}
use Rattle.morris_index.proofs.rank_tables.RankTable.make.Given as goal

abbrev pub invariant-loop-at : goal.invariant-loop-at
invariant-loop-at l = record {
  len : vec_len l.sums ≡ l.at;
  lower : (k : ℕ) → k < l.at → k < 4096 → count_below (has k) 12 ≤ 9 → get_or l.sums.items k 0 ≡ part_rank 0 12 0 k;
  upper : (k : ℕ) → k < l.at → 4096 ≤ k → count_below (has (k % 4096)) 12 ≤ k / 4096 - 1
      → get_or l.sums.items k 0 ≡ part_rank 12 12 (k / 4096 - 1 - count_below (has (k % 4096)) 12) (k % 4096);
}
