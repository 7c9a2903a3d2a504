-- Ranks by halves of twelve points.
use Rattle.std.proofs.Common.{◌≡◌, ℕ, ◌+◌, ◌/◌, ◌%◌, ◌^◌, ◌<◌, ◌≤◌, ap, ap₂, arith}
use Rattle.std.proofs.Math.Nat.{mod-eq_of_lt}
use Rattle.morris_board.specs.Sets.{has, count_of}
use Rattle.morris_index.specs.Parts.{part_rank}
use Rattle.morris_index.proofs.RankLaws.{count_below, count-none, rank_below}
use Rattle.morris_index.proofs.Moving.{rank-zero}
use Rattle.morris_index.proofs.SetLaws.{count_of-below}
use Rattle.morris_index.proofs.Squeezing.{count-from, rank-from}

-- ---- the two halves of a board

module _ (set : ℕ) (within : set < 2 ^ 24) where
  lower_is : set / 2 ^ 0 % 2 ^ 12 ≡ set % 4096
  lower_is = omega arith

  upper_is : set / 2 ^ 12 % 2 ^ 12 ≡ set / 4096
  upper_is = mod-eq_of_lt (omega arith)

  pub rank-halves : rank_below 0 (has set) 24 ≡ part_rank 0 12 0 (set % 4096) + part_rank 12 12 (count_below (has set) 12) (set / 4096)
  rank-halves =
      let lower : part_rank 0 12 (count_below (has set) 0) (set / 2 ^ 0 % 2 ^ 12) ≡ part_rank 0 12 0 (set % 4096) =
      ap₂ (part_rank 0 12) (count-none (has set)) lower_is in
      let upper : part_rank 12 12 (count_below (has set) 12) (set / 2 ^ 12 % 2 ^ 12) ≡ part_rank 12 12 (count_below (has set) 12) (set / 4096) =
      ap (part_rank 12 12 (count_below (has set) 12)) upper_is in
      omega (arith, rank-from set 12 12, rank-from set 0 12, lower, upper, rank-zero 0 (has set))

  module _ (few : count_of set ≤ 9) where
    pub count-halves : count_of set ≡ count_below (has set) 12 + count_below (has (set / 4096)) 12
    count-halves =
        omega (arith, count-from set 12 12, ap (λ k. count_below (has k) 12) upper_is, count_of-below set 24 within (omega arith))

    pub few_lower : count_below (has (set % 4096)) 12 ≤ 9
    few_lower = omega (arith, count-halves, few, count-from set 0 12, ap (λ k. count_below (has k) 12) lower_is, count-none (has set))
