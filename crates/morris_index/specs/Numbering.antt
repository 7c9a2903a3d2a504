-- The numbering of sets of points, and of the positions with given numbers of stones.
use Rattle.std.specs.Prelude.{◌≡◌, ◌<◌, ◌^◌, true, false, Bool, ℕ, suc, ◌+◌, ◌-◌, ◌*◌, not, List, [], ◌∷◌, map, filter, length, slice_index}
use Rattle.std.specs.List.{range_with_len}
use Rattle.morris_board.specs.Sets.{has, members, count_of}
use Rattle.morris_board.specs.Positions.{Sides}
use Rattle.morris_index.specs.Binomials.{choose}

-- The rank of ascending points p0 < p1 < .. is C(p0, 1) + C(p1, 2) + ..; `place` is 1 for the first
-- of them.
abbrev pub rank_from : ℕ → List ℕ → ℕ
rank_from place [] = 0
rank_from place (p ∷ ps) = choose p place + rank_from (suc place) ps

unfoldable pub rank_of : List ℕ → ℕ
rank_of points = rank_from 1 points

-- how many of the numbers below n pass a test
unfoldable pub count_below : (ℕ → Bool) → ℕ → ℕ
count_below f n = length (filter f (range_with_len 0 n))

-- The points that aren't in `own` are renumbered 0, 1, 2, .. in ascending order: the number of p is
-- how many of them lie below it.
unfoldable pub number_outside : ℕ → ℕ → ℕ
number_outside own p = length (filter (λ q. not (has own q)) (range_with_len 0 p))

-- how many positions on n points have a own stones and b other ones
unfoldable pub half_size : ℕ → ℕ → ℕ → ℕ
half_size n a b = choose n a * choose (n - a) b

-- the index of a position on n points among those with the same numbers of stones
unfoldable pub half_index : ℕ → Sides → ℕ
half_index n s =
    rank_of (members s.own) * choose (n - count_of s.own) (count_of s.other) + rank_of (map (number_outside s.own) (members s.other))

-- the set of `count` points below n, none of them in `outside`, that has this rank
pub record IsRanked (n outside count rank set : ℕ) : Type 0 where
  pub within : set < 2 ^ n
  pub apart : (p : ℕ) → has set p ≡ true → has outside p ≡ false
  pub counted : count_of set ≡ count
  pub ranked : rank_of (map (number_outside outside) (members set)) ≡ rank

-- a list of all sets of `count` points below n, each at its rank
pub record AreRanked (n count : ℕ) (sets : List ℕ) : Type 0 where
  pub len : length sets ≡ choose n count
  pub each : (rank : ℕ) → rank < choose n count → IsRanked n 0 count rank (slice_index sets rank)
