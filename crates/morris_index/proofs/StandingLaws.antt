-- The entries of positions with given stones of the player to move.
use Rattle.std.proofs.Common.{◌≡◌, ℕ, ◌+◌, ◌-◌, ◌*◌, ◌^◌, ◌<◌, ◌≤◌, true, map, refl, sym, ◌∙◌, ap, ap₂, arith}
use Rattle.std.proofs.Math.Nat.{mul-le-mul_left}
use Rattle.std.proofs.lemmas.Bool.Decides.{nat_tests}
use Rattle.morris_board.specs.Boards.{Shape}
use Rattle.morris_board.specs.Sets.{members, count_of}
use Rattle.morris_board.specs.Positions.{Sides, sides, IsPosition}
use Rattle.morris_board.specs.Symmetries.{HasSymmetries}
use Rattle.morris_index.specs.Binomials.{choose}
use Rattle.morris_index.specs.Numbering.{rank_of, number_outside, half_index}
use Rattle.morris_index.specs.ClassPairs.{class_size_of, class_index_of}
use Rattle.morris_index.specs.Moves.{start_of}
use Rattle.morris_index.specs.Pairs.{Counts, IsPair, size_of, index_of}
use Rattle.morris_index.specs.Standings.{are_of, IsStanding, IsCanonicalStanding}
use Rattle.morris_index.specs.declared.standing.Standing.{Standing}
use Rattle.morris_index.proofs.BinomialTable.{choose_small}
use Rattle.morris_index.proofs.ClassLaws.{symmetry_leads, symmetry_within}
use Rattle.morris_index.proofs.ClassPairLaws.{index-lt}
use Rattle.morris_index.proofs.CarriedLaws.{IsCarried, is_carried, carried_rank}
use Rattle.morris_index.proofs.ClassMoveLaws.{canonical_entry}
use Rattle.morris_index.proofs.MoveLaws.{start-few, index-parts, regrouped}
use Rattle.morris_board.proofs.PositionLaws.{own_count, other_count}
use Rattle.morris_index.proofs.IndexLaws.{placed, number_outside-none, rank_outside-lt, half_index-few, index-lt as position-lt}
use Rattle.morris_board.proofs.PointsLaws.{has-none}

-- ---- the indices of all positions

counts_few : (n : ℕ) (c : Counts) (own other : ℕ) → IsPair n c → are_of c own other ≡ true → own ≤ 9
counts_few n c own other pair of = grind (arith, nat_tests)

pub product_few : (x y : ℕ) → x ≤ 1307504 → y < 2097152 → x * y < 2742070124545
product_few x y h k = omega (arith, mul-le-mul_left {m = x} {n = 1307504} y h)

pub own_rank-few : (n own other : ℕ) (c : Counts) → n ≤ 24 → own < 2 ^ n → IsPair n c → are_of c (count_of own) other ≡ true → rank_of (map (number_outside 0) (members own)) ≤ 1307504
own_rank-few n own other c low within pair of =
    let few : count_of own ≤ 9 = counts_few n c (count_of own) other pair of in
    let below = rw number_outside-none at (rank_outside-lt n 0 (omega arith) own within (λ p h. has-none p)) in
    omega (arith, below, choose_small n (count_of own) (omega arith) (omega arith))

module _ (board : Shape) (n : ℕ) (few : n ≤ 24) (points : board.points ≡ n) (c : Counts) (standing : Standing) (other : ℕ) (k : IsStanding n c (count_of other) standing)
    (h : IsPosition board (sides standing.own other)) where
  abbrev s : Sides
  s = sides standing.own other

  -- what the code adds up
  abbrev rank : ℕ
  rank = rank_of (map (number_outside standing.place) (members other))

  ranks : rank_of (members standing.own) * choose (n - count_of standing.own) (count_of other) + rank ≡ half_index n s
  unfolding half_index
  ranks = rw k.place refl

  pub index-is : standing.start + rank ≡ index_of n c s
  index-is = ap (λ x. x + rank) k.start ∙ regrouped _ _ _ ∙ ap (λ x. start_of n c (count_of standing.own) + x) ranks ∙ sym (index-parts n c s)

  pub index_below : standing.start + rank < size_of n c
  index_below = rw index-is (position-lt n c (omega arith) s (placed board n s points h) k.counts)

  pub index_few : standing.start + rank < 2 ^ 60
  index_few = omega (
    arith,
    index-is,
    index-parts n c s,
    start-few n c (count_of standing.own) few k.pair,
    half_index-few n s few (placed board n s points h) (own_count s h.sized).1 (other_count s h.sized).1,
  )

-- ---- the entries by classes

module _ (board : Shape) (n : ℕ) (few : n ≤ 24) (points : board.points ≡ n) (y : HasSymmetries board) (c : Counts) (standing : Standing) (other : ℕ)
    (k : IsCanonicalStanding board n c (count_of other) standing) (h : IsPosition board (sides standing.own other)) where
  abbrev canonical_from : Sides
  canonical_from = sides standing.own other

  pub canonicalizing_within : standing.symmetry < board.symmetries
  canonicalizing_within = rw k.symmetry (symmetry_within board (omega arith) y standing.own h.stones.own_within)

  pub canonical_there : IsCarried board n canonical_from standing.symmetry
  canonical_there =
      is_carried board n few points y canonical_from (placed board n canonical_from points h) (other_count canonical_from h.sized).1 standing.symmetry canonicalizing_within
      (rw k.symmetry (symmetry_leads board standing.own y.some))

  -- what the code adds up
  pub entry-is : standing.start + carried_rank board canonical_from standing.symmetry ≡ class_index_of board n c canonical_from
  entry-is = ap₂ (λ a b. a + b) k.start (ap (carried_rank board canonical_from) k.symmetry) ∙ canonical_entry board n few points y c canonical_from

  pub entry_below : standing.start + carried_rank board canonical_from standing.symmetry < class_size_of board n c
  entry_below = rw entry-is (index-lt board n few points y c canonical_from h k.counts)
