-- Sums over the stones below a point, from which the rank of a set is found where a stone has
-- moved.
use Rattle.std.specs.Prelude.{◌≡◌, ℕ, zero, suc, ◌+◌, ◌-◌, ◌≤◌, Bool, length, slice_index, if◌then◌else◌}
use Rattle.morris_board.specs.Sets.{has}
use Rattle.morris_index.specs.Binomials.{choose}
use Rattle.morris_index.specs.Numbering.{number_outside, count_below}
use Rattle.morris_index.specs.declared.sums.KeptSums.{KeptSums}

-- what stands at the points below n, added up
unfoldable pub total : (ℕ → ℕ) → ℕ → ℕ
total t zero = 0
total t (suc n) = total t n + t n

-- What a point p of a set adds to the rank, and 0 for the other points: the binomial coefficient of
-- its number and its place, where the first point has the place `first`. That is 1 in a rank; 2 or
-- 0 where each point stands a place later or earlier.
abbrev pub term : (ℕ → Bool) → (ℕ → ℕ) → ℕ → ℕ → ℕ
term f number first p = if f p then choose (number p) (count_below f p + first) else 0

-- the sum of these over the points of a set below n
abbrev pub sum_below : ℕ → (ℕ → ℕ) → ℕ → ℕ → ℕ
sum_below set number first n = total (term (has set) number first) n

-- what is added to each of the kept differences, so that none is below 0
abbrev pub bias : ℕ
bias = 33554432

-- The kept sums of a set whose points are numbered outside another, for a point that moves: one of
-- the set's own where `moved` is 1, one of the others where it is 0. The points between its ends
-- stand a place later, or get the number before theirs, where it goes to a lesser point; and a
-- place earlier, or the number after, where it goes to a greater one. What is kept for k points is
-- that of all n that have k points of the set below them.
pub record AreKept (moved outside set : ℕ) (sums : KeptSums) : Type 0 where
  pub lower_len : length sums.lower ≡ 10
  pub higher_len : length sums.higher ≡ 10
  pub lower : (n : ℕ) → n ≤ 24
      → slice_index sums.lower (count_below (has set) n) + sum_below set (λ p. number_outside outside p - (1 - moved)) (1 + moved) n
      ≡ bias + sum_below set (number_outside outside) 1 n
  pub higher : (n : ℕ) → n ≤ 24
      → slice_index sums.higher (count_below (has set) n) + sum_below set (number_outside outside) 1 n
      ≡ bias + sum_below set (λ p. number_outside outside p + (1 - moved)) (1 - moved) n
  pub rank : sums.rank ≡ sum_below set (number_outside outside) 1 24

-- What a point p and the points of a set below it come to, where p is an end of the way of a point
-- of the set that goes to a lesser point, or to a greater one: those between the ends stand a place
-- later then, or a place earlier. The rank grows by what the end comes to that it goes to, less
-- what the one does that it leaves.
abbrev pub moved_end : Bool → ℕ → ℕ → ℕ → ℕ
moved_end lower outside set p =
    if lower then (bias + sum_below set (number_outside outside) 1 p) - sum_below set (number_outside outside) 2 p
    + choose (number_outside outside p) (count_below (has set) p + 1)
    else (bias + sum_below set (number_outside outside) 0 p) - sum_below set (number_outside outside) 1 p
    + choose (number_outside outside p) (count_below (has set) p)

-- What the points of a set below p come to, where p is an end of the way of one of those outside
-- which they are numbered: those between get the number before theirs where it goes to a lesser
-- point, and the number after theirs where it goes to a greater one.
abbrev pub renumbered_end : Bool → ℕ → ℕ → ℕ → ℕ
renumbered_end lower outside set p =
    if lower then (bias + sum_below set (number_outside outside) 1 p) - sum_below set (λ q. number_outside outside q - 1) 1 p
    else (bias + sum_below set (λ q. number_outside outside q + 1) 1 p) - sum_below set (number_outside outside) 1 p
