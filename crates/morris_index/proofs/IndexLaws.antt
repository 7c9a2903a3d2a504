-- Laws of the numbering of positions: the index is below the size, and no two positions of a pair
-- have the same one.
use Rattle.std.proofs.Common.{◌≡◌, ◌≢◌, ℕ, zero, suc, ◌+◌, ◌-◌, ◌*◌, ◌/◌, ◌%◌, ◌^◌, ◌<◌, ◌≤◌, true, false, ◌||◌, eqb, List, [], ◌∷◌, map, refl, sym, ◌∙◌, ap, inl, inr, ◌⊎◌, arith}
use Rattle.std.proofs.lemmas.Bool.{cases_Bool, cases_eq, cases_lt, both_ways, eqb-true, eq-eqb, ne_eqb, and_parts, or_right}
use Rattle.std.proofs.Math.Nat.{mul-le-mul_left, pow-le-pow_right, div-lt_iff_lt-mul, mod-lt}
use Rattle.std.proofs.lemmas.Nat.{div-add-mod'}
use Rattle.std.proofs.Math.Path.{ap₂}
use Rattle.morris_board.specs.Boards.{Shape}
use Rattle.morris_board.specs.Sets.{has, members, count_of}
use Rattle.morris_board.specs.Positions.{Sides, sides, IsPosition}
use Rattle.morris_board.proofs.PointsLaws.{has-none, has-above, same_points}
use Rattle.morris_index.specs.Binomials.{choose}
use Rattle.morris_index.specs.Numbering.{rank_of, number_outside, half_size, half_index, IsRanked}
use Rattle.morris_index.specs.Pairs.{Counts, counts, IsHalf, has_counts, is_of, size_of, index_of}
use Rattle.morris_index.proofs.BinomialTable.{choose_small, choose_smaller}
use Rattle.morris_index.proofs.RankLaws.{count_below, rank_below, rank-lt, rank-same, members-passing, number-count, number-outside, number-inside, count-none, count-yes, count-no}
use Rattle.morris_index.proofs.SetLaws.{count_of-below}

-- ---- sets of points below n

-- nothing of the empty set lies below a point, so it changes no number
pub number_outside-none : (p : ℕ) → number_outside 0 p ≡ p
number_outside-none p = omega (arith, number-count 0 p, none p)
  where
    none : (p : ℕ) → count_below (has 0) p ≡ 0
    none zero = count-none (has 0)
    none (suc p) = count-no (has 0) p (has-none p) ∙ none p

pub map_number-none : (ps : List ℕ) → map (number_outside 0) ps ≡ ps
map_number-none [] = refl
map_number-none (p ∷ ps) = rw (number_outside-none p, map_number-none ps) refl

-- the points outside a set are those that are left
pub number_outside-count : (n s : ℕ) → s < 2 ^ n → n ≤ 32 → number_outside s n + count_of s ≡ n
number_outside-count n s within low = omega (arith, number-count s n, count_of-below s n within low)

-- two sets with no point in common have no more points than there are
pub count_of-outside : (n s outside : ℕ) → s < 2 ^ n → n ≤ 32 → ((p : ℕ) → has s p ≡ true → has outside p ≡ false) → count_of s ≤ number_outside outside n
count_of-outside n s outside within low apart = omega (arith, count_of-below s n within low, below n)
  where
    below : (n : ℕ) → count_below (has s) n ≤ number_outside outside n
    below zero = omega (arith, count-none (has s))
    below (suc n) = elim (cases_Bool (has s n)) [
      | inl h ↦ omega (arith, below n, count-yes (has s) n h, number-outside outside n (apart n h))
      | inr h ↦ elim (cases_Bool (has outside n)) [
        | inl y ↦ omega (arith, below n, count-no (has s) n h, number-inside outside n y)
        | inr y ↦ omega (arith, below n, count-no (has s) n h, number-outside outside n y)
      ]
    ]

module _ (n outside : ℕ) (low : n ≤ 32) where
  abbrev rank_outside : ℕ → ℕ
  rank_outside s = rank_of (map (number_outside outside) (members s))

  rank_set : (s : ℕ) → s < 2 ^ n → rank_outside s ≡ rank_below outside (has s) n
  unfolding rank_below
  rank_set s within = ap (λ ps. rank_of (map (number_outside outside) ps)) (members-passing s n within low)

  pub rank_outside-lt : (s : ℕ) → s < 2 ^ n → ((p : ℕ) → has s p ≡ true → has outside p ≡ false) → rank_outside s < choose (number_outside outside n) (count_of s)
  rank_outside-lt s within apart = rw (rank_set s within, count_of-below s n within low) (rank-lt outside (has s) apart n)

  pub rank_outside-same : (s t : ℕ) → s < 2 ^ n → t < 2 ^ n → ((p : ℕ) → has s p ≡ true → has outside p ≡ false) → ((p : ℕ) → has t p ≡ true → has outside p ≡ false)
      → count_of s ≡ count_of t → rank_outside s ≡ rank_outside t → s ≡ t
  rank_outside-same s t s_in t_in s_apart t_apart counts ranks = same_points s t each
    where
      each : (p : ℕ) → has s p ≡ has t p
      each p = elim (cases_lt p n) [
        | inl l ↦
            rank-same outside (has s) (has t) s_apart t_apart n
            (sym (count_of-below s n s_in low) ∙ counts ∙ count_of-below t n t_in low)
            (sym (rank_set s s_in) ∙ ranks ∙ rank_set t t_in) p l
        | inr g ↦ has-above s n p s_in g ∙ sym (has-above t n p t_in g)
      ]

-- ---- the two parts of an index

pub parts_lt : (x y a c : ℕ) → x < a → y < c → x * c + y < a * c
parts_lt x y a c h k = omega (arith, mul-le-mul_left {m = suc x} {n = a} c (omega arith))

parts_not : (x y u v c : ℕ) → y < c → x < u → x * c + y ≡ u * c + v → ⊥
parts_not x y u v c h k e = omega (arith, mul-le-mul_left {m = suc x} {n = u} c (omega arith))

pub parts_same : (x y u v c : ℕ) → y < c → v < c → x * c + y ≡ u * c + v → (x ≡ u) × (y ≡ v)
parts_same x y u v c h k e = elim (cases_lt x u) [
  | inl l ↦ absurd (parts_not x y u v c h l e)
  | inr g ↦ elim (cases_lt u x) [
    | inl l ↦ absurd (parts_not u v x y c k l (sym e))
    | inr g' ↦ let same : x ≡ u = omega arith in (same, omega (arith, ap (λ z. z * c) same))
  ]
]

-- ---- positions with given numbers of stones

-- two sets of points below n with none in common
pub record IsPlaced (n : ℕ) (s : Sides) : Type 0 where
  pub own_within : s.own < 2 ^ n
  pub other_within : s.other < 2 ^ n
  pub apart : (p : ℕ) → has s.own p ≡ true → has s.other p ≡ false

pub placed : (b : Shape) (n : ℕ) (s : Sides) → b.points ≡ n → IsPosition b s → IsPlaced n s
placed b n s e h = record {
  own_within = rw (← e) h.stones.own_within;
  other_within = rw (← e) h.stones.other_within;
  apart = h.stones.apart;
}

abbrev own_rank : Sides → ℕ
own_rank s = rank_of (members s.own)

abbrev other_rank : Sides → ℕ
other_rank s = rank_of (map (number_outside s.own) (members s.other))

module _ (n : ℕ) (low : n ≤ 32) where
  -- what has no point of own has none of other's points in own
  pub other_apart : (s : Sides) → IsPlaced n s → (p : ℕ) → has s.other p ≡ true → has s.own p ≡ false
  other_apart s h p y = elim (cases_Bool (has s.own p)) [
    | inl x ↦ absurd (both_ways (has s.other p) (h.apart p x) y)
    | inr x ↦ x
  ]

  own_apart : (s : ℕ) (p : ℕ) → has s p ≡ true → has 0 p ≡ false
  own_apart s p h = has-none p

  pub free_points : (s : Sides) → IsPlaced n s → number_outside s.own n ≡ n - count_of s.own
  free_points s h = omega (arith, number_outside-count n s.own h.own_within low)

  pub counts_fit : (s : Sides) → IsPlaced n s → count_of s.own + count_of s.other ≤ n
  counts_fit s h = omega (arith, number_outside-count n s.own h.own_within low, count_of-outside n s.other s.own h.other_within low (other_apart s h))

  own_rank-lt : (s : Sides) → IsPlaced n s → rank_of (members s.own) < choose n (count_of s.own)
  own_rank-lt s h =
      rw (map_number-none, number_outside-none) at (rank_outside-lt n 0 low s.own h.own_within (own_apart s.own))

  pub other_rank-lt : (s : Sides) → IsPlaced n s
      → rank_of (map (number_outside s.own) (members s.other)) < choose (n - count_of s.own) (count_of s.other)
  other_rank-lt s h =
      rw (free_points s h) at (rank_outside-lt n s.own low s.other h.other_within (other_apart s h))

  pub half_index-lt : (s : Sides) → IsPlaced n s → half_index n s < half_size n (count_of s.own) (count_of s.other)
  unfolding half_index half_size
  half_index-lt s h = parts_lt _ _ _ _ (own_rank-lt s h) (other_rank-lt s h)

  pub half_index-same : (s t : Sides) → IsPlaced n s → IsPlaced n t → count_of s.own ≡ count_of t.own → count_of s.other ≡ count_of t.other
      → half_index n s ≡ half_index n t → s ≡ t
  unfolding half_index
  half_index-same s t h k own other e = ap₂ sides same_own same_other
    where
      free : ℕ
      free = choose (n - count_of s.own) (count_of s.other)

      parts : (own_rank s ≡ own_rank t) × (other_rank s ≡ other_rank t)
      parts = parts_same (own_rank s) (other_rank s) (own_rank t) (other_rank t) free (other_rank-lt s h) (rw (own, other) (other_rank-lt t k)) (rw (← own, ← other) at e)

      same_own : s.own ≡ t.own
      same_own = rank_outside-same n 0 low s.own t.own h.own_within k.own_within (own_apart s.own) (own_apart t.own) own
          (rw (map_number-none (members s.own), map_number-none (members t.own)) (parts.0))

      same_other : s.other ≡ t.other
      same_other = rank_outside-same n s.own low s.other t.other h.other_within k.other_within (other_apart s h)
          (λ p y. rw same_own (other_apart t k p y)) other (parts.1 ∙ ap (λ o. rank_of (map (number_outside o) (members t.other))) (sym same_own))

-- ---- the two halves of a pair

pub counts_are : (a b : ℕ) (s : Sides) → has_counts a b s ≡ true → (count_of s.own ≡ a) × (count_of s.other ≡ b)
counts_are a b s y = let parts = and_parts (eqb (count_of s.own) a) (eqb (count_of s.other) b) y in (eqb-true _ _ parts.0, eqb-true _ _ parts.1)

pub is_of-first : (c : Counts) (s : Sides) → has_counts c.greater c.lesser s ≡ true → is_of c s ≡ true
is_of-first c s h = rw h refl

pub is_of-second : (c : Counts) (s : Sides) → has_counts c.lesser c.greater s ≡ true → is_of c s ≡ true
is_of-second c s h = or_right (has_counts c.greater c.lesser s) (has_counts c.lesser c.greater s) h

-- a position of a pair stands in the first half, or in the second where there are two
pub halves_of : (c : Counts) (s : Sides) → is_of c s ≡ true
    → ((count_of s.own ≡ c.greater) × (count_of s.other ≡ c.lesser))
    ⊎ ((c.greater ≢ c.lesser) × (count_of s.own ≡ c.lesser) × (count_of s.other ≡ c.greater))
halves_of c s h = elim (cases_Bool (has_counts c.greater c.lesser s)) [
  | inl y ↦ inl (counts_are c.greater c.lesser s y)
  | inr y ↦
      let other = counts_are c.lesser c.greater s (ap (λ b. b || has_counts c.lesser c.greater s) (sym y) ∙ h) in
      elim (cases_eq c.greater c.lesser) [
        | inl e ↦ inl (other.0 ∙ sym e, other.1 ∙ e)
        | inr d ↦ inr (d, other.0, other.1)
      ]
]

module _ (n : ℕ) (c : Counts) where
  pub size-one : c.greater ≡ c.lesser → size_of n c ≡ half_size n c.greater c.lesser
  unfolding size_of
  size-one e = rw (eq-eqb c.greater c.lesser e) refl

  pub size-two : c.greater ≢ c.lesser → size_of n c ≡ half_size n c.greater c.lesser + half_size n c.lesser c.greater
  unfolding size_of
  size-two d = rw (ne_eqb c.greater c.lesser d) refl

  pub size-ge : half_size n c.greater c.lesser ≤ size_of n c
  size-ge = elim (cases_eq c.greater c.lesser) [
    | inl e ↦ omega (arith, size-one e)
    | inr d ↦ omega (arith, size-two d)
  ]

  pub index-first : (s : Sides) → count_of s.own ≡ c.greater → index_of n c s ≡ half_index n s
  unfolding index_of
  index-first s e = rw (eq-eqb (count_of s.own) c.greater e) refl

  pub index-second : (s : Sides) → count_of s.own ≢ c.greater → index_of n c s ≡ half_size n c.greater c.lesser + half_index n s
  unfolding index_of
  index-second s d = rw (ne_eqb (count_of s.own) c.greater d) refl

  -- what lies above the first half is the second
  pub second_half : (index : ℕ) → index < size_of n c → half_size n c.greater c.lesser ≤ index
      → (c.greater ≢ c.lesser) × (index - half_size n c.greater c.lesser < half_size n c.lesser c.greater)
  second_half index h k = elim (cases_eq c.greater c.lesser) [
    | inl e ↦ absurd (omega (arith, size-one e))
    | inr d ↦ (d, omega (arith, size-two d))
  ]

  pub index-in_first : (s : Sides) (index : ℕ) → has_counts c.greater c.lesser s ≡ true → half_index n s ≡ index → index_of n c s ≡ index
  index-in_first s index h e = index-first s ((counts_are c.greater c.lesser s h).0) ∙ e

  pub index-in_second : (s : Sides) (index : ℕ) → c.greater ≢ c.lesser → has_counts c.lesser c.greater s ≡ true → half_size n c.greater c.lesser ≤ index
      → half_index n s ≡ index - half_size n c.greater c.lesser → index_of n c s ≡ index
  index-in_second s index d h low e =
      let own : count_of s.own ≡ c.lesser = (counts_are c.lesser c.greater s h).0 in
      let second : count_of s.own ≢ c.greater = omega arith in
      omega (arith, index-second s second)

  module _ (low : n ≤ 32) where
    half-lt : (s : Sides) → IsPlaced n s → (a b : ℕ) → count_of s.own ≡ a → count_of s.other ≡ b → half_index n s < half_size n a b
    half-lt s h a b own other = rw (← own, ← other) (half_index-lt n low s h)

    pub index-lt : (s : Sides) → IsPlaced n s → is_of c s ≡ true → index_of n c s < size_of n c
    index-lt s h of = elim (halves_of c s of) [
      | inl y ↦ omega (arith, index-first s (y.0), half-lt s h c.greater c.lesser (y.0) (y.1), size-ge)
      | inr y ↦
          let second : count_of s.own ≢ c.greater = omega (arith, y.0, y.1) in
          omega (arith, index-second s second, half-lt s h c.lesser c.greater (y.1) (y.2), size-two (y.0))
    ]

    not_both : (s t : Sides) → IsPlaced n s → (count_of s.own ≡ c.greater) × (count_of s.other ≡ c.lesser) → count_of t.own ≢ c.greater
        → index_of n c s ≡ index_of n c t → ⊥
    not_both s t h y d e = omega (arith, index-first s (y.0), half-lt s h c.greater c.lesser (y.0) (y.1), index-second t d)

    pub index-same : (s t : Sides) → IsPlaced n s → IsPlaced n t → is_of c s ≡ true → is_of c t ≡ true → index_of n c s ≡ index_of n c t → s ≡ t
    index-same s t h k of_s of_t e = elim (halves_of c s of_s) [
      | inl y ↦ elim (halves_of c t of_t) [
        | inl z ↦
            half_index-same n low s t h k (y.0 ∙ sym (z.0)) (y.1 ∙ sym (z.1)) (omega (arith, index-first s (y.0), index-first t (z.0)))
        | inr z ↦ absurd (not_both s t h y (omega (arith, z.0, z.1)) e)
      ]
      | inr y ↦
          let second : count_of s.own ≢ c.greater = omega (arith, y.0, y.1) in
          elim (halves_of c t of_t) [
            | inl z ↦ absurd (not_both t s k z second (sym e))
            | inr z ↦
                let second' : count_of t.own ≢ c.greater = omega (arith, z.0, z.1) in
                half_index-same n low s t h k (y.1 ∙ sym (z.1)) (y.2 ∙ sym (z.2)) (omega (arith, index-second s second, index-second t second'))
          ]
    ]

-- ---- how large the numbers are

pub both_le : (x y a b : ℕ) → x ≤ a → y ≤ b → x * y ≤ a * b
both_le x y a b h k = omega (arith, mul-le-mul_left {m = y} {n = b} x k, mul-le-mul_left {m = x} {n = a} b h)

half_size-le : (n a b : ℕ) → n ≤ 24 → a ≤ 9 → b ≤ 9 → half_size n a b ≤ 1307504 * 1307504
unfolding half_size
half_size-le n a b low h k =
    both_le _ _ 1307504 1307504 (choose_small n a (omega arith) (omega arith)) (choose_small (n - a) b (omega arith) (omega arith))

pub half_size-few : (n a b : ℕ) → n ≤ 24 → IsHalf n a b → half_size n a b ≤ 549755813888
unfolding half_size
half_size-few n a b low h =
    let few : choose n a * choose (n - a) b ≤ 1307504 * 293930 =
    both_le _ _ 1307504 293930 (choose_small n a (omega arith) (omega arith)) (choose_smaller (n - a) b (omega arith) (omega arith)) in
    omega arith

pub half_index-few : (n : ℕ) (s : Sides) → n ≤ 24 → IsPlaced n s → count_of s.own ≤ 9 → count_of s.other ≤ 9 → half_index n s < 1307504 * 1307504
half_index-few n s low h own other =
    omega (arith, half_index-lt n (omega arith) s h, half_size-le n (count_of s.own) (count_of s.other) low own other)

pub within_24 : (s n : ℕ) → s < 2 ^ n → n ≤ 24 → s < 2 ^ 24
within_24 s n h low = omega (arith, pow-le-pow_right {n = 2} (omega arith) {i = n} {j = 24} low)

-- ---- from an index to the position

module _ (n a b index : ℕ) (small : index < half_size n a b) where
  pub choices_some : 0 < choose (n - a) b
  unfolding half_size
  choices_some = elim (cases_eq (choose (n - a) b) 0) [
    | inl e ↦ absurd (omega (arith, rw e at small))
    | inr d ↦ omega arith
  ]

  pub own_part-lt : index / choose (n - a) b < choose (number_outside 0 n) a
  unfolding half_size
  own_part-lt = rw (number_outside-none n) ((div-lt_iff_lt-mul {k = choose (n - a) b} {x = index} {y = choose n a} choices_some).1 small)

  module _ (own : ℕ) (low : n ≤ 32) (own_ranked : IsRanked n 0 a (index / choose (n - a) b) own) where
    pub other_part-lt : index % choose (n - a) b < choose (number_outside own n) b
    other_part-lt =
        let free : number_outside own n ≡ n - a = omega (arith, number_outside-count n own own_ranked.within low, own_ranked.counted) in
        rw free (mod-lt index choices_some)

    pub half_index-ranked : (other : ℕ) → IsRanked n own b (index % choose (n - a) b) other → half_index n (sides own other) ≡ index
    unfolding half_index
    half_index-ranked other other_ranked =
        rw (own_ranked.counted, other_ranked.counted, other_ranked.ranked, ← map_number-none (members own), own_ranked.ranked)
        (div-add-mod' index (choose (n - a) b))
