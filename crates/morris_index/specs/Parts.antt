-- Sets of points read part by part, eight or twelve points at a time.
use Rattle.std.specs.Prelude.{◌≡◌, ℕ, ◌+◌, ◌-◌, ◌*◌, ◌^◌, ◌<◌, ◌≤◌, ◌&&◌, not, if◌then◌else◌, List, length, slice_index}
use Rattle.morris_board.specs.Sets.{has}
use Rattle.morris_index.specs.Numbering.{count_below, number_outside}
use Rattle.morris_index.specs.Sums.{total, sum_below}

-- the mask of a point's number outside a set, and 0 for a point that isn't in `set` or is in
-- `outside`
abbrev pub bit_of_number : ℕ → ℕ → ℕ → ℕ
bit_of_number outside set p = if has set p && not (has outside p) then 2 ^ number_outside outside p else 0

-- the numbers outside a set of the points of another below n, as a set
unfoldable pub squeeze_below : ℕ → ℕ → ℕ → ℕ
squeeze_below outside set n = total (bit_of_number outside set) n

-- What the points of a part add to a rank, where the part has `width` points, its point i is the
-- point start + i of the board, and `place` points of the set stand below the part.
unfoldable pub part_rank : ℕ → ℕ → ℕ → ℕ → ℕ
part_rank start width place points = sum_below points (λ i. start + i) (place + 1) width

-- A table of these for the halves of a board of 24 points: first, for each half, what it adds as
-- the points 0 to 11; then, for each number of points of a set and each half that has no more, what
-- it adds as the points 12 to 23 of the set.
pub record IsRankTable (sums : List ℕ) : Type 0 where
  pub len : length sums ≡ 45056
  pub lower : (points : ℕ) → points < 4096 → count_below (has points) 12 ≤ 9 → slice_index sums points ≡ part_rank 0 12 0 points
  pub upper : (count points : ℕ) → count ≤ 9 → points < 4096 → count_below (has points) 12 ≤ count
      → slice_index sums ((1 + count) * 4096 + points) ≡ part_rank 12 12 (count - count_below (has points) 12) points

-- The two rows of that table by which sets of `count` points are ranked: what the points 0 to 11
-- add, and what the points 12 to 23 do.
pub record AreRankRows (count : ℕ) (first second : List ℕ) : Type 0 where
  pub few : count ≤ 9
  pub lower_len : length first ≡ 4096
  pub upper_len : length second ≡ 4096
  pub lower : (points : ℕ) → points < 4096 → count_below (has points) 12 ≤ 9 → slice_index first points ≡ part_rank 0 12 0 points
  pub upper : (points : ℕ) → points < 4096 → count_below (has points) 12 ≤ count
      → slice_index second points ≡ part_rank 12 12 (count - count_below (has points) 12) points

-- A table of the squeezed rings: for each ring of eight points of an outer set and each of a set.
pub record IsRingTable (rings : List ℕ) : Type 0 where
  pub len : length rings ≡ 65536
  pub each : (outside points : ℕ) → outside < 256 → points < 256 → slice_index rings (outside * 256 + points) ≡ squeeze_below outside points 8
