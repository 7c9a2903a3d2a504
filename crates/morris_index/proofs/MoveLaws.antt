-- The index of a position that differs from a given one by a moved stone.
use Rattle.std.proofs.Common.{◌≡◌, ℕ, ◌+◌, ◌-◌, ◌*◌, ◌^◌, ◌<◌, ◌≤◌, Bool, true, false, not, ◌||◌, eqb, ltb, map, refl, sym, ◌∙◌, ap, ap₂, inl, inr, ◌⊎◌, arith}
use Rattle.std.proofs.lemmas.Bool.{cases_Bool, cases_eq, both_ways, eq-eqb, ne_eqb, ltb-true, ltb-false, and_right}
use Rattle.morris_board.specs.Boards.{Shape}
use Rattle.morris_board.specs.Sets.{has, members, count_of, with_point, without_point}
use Rattle.morris_board.specs.Positions.{Sides, sides, IsPosition}
use Rattle.morris_board.proofs.SetLaws.{point_lt, with_point-lt, without_point-lt}
use Rattle.morris_board.proofs.PointsLaws.{has-without, count_of-with, count_of-without}
use Rattle.morris_index.specs.Binomials.{choose}
use Rattle.morris_index.specs.Numbering.{rank_of, number_outside, half_index}
use Rattle.morris_index.specs.Pairs.{Counts, IsPair, IsHalf, index_of}
use Rattle.morris_index.specs.Sums.{AreKept, moved_end, renumbered_end}
use Rattle.morris_index.specs.Moves.{unmove_sides, move_sides, start_of, end_taken_back}
use Rattle.morris_index.specs.declared.sums.KeptSums.{KeptSums}
use Rattle.std.proofs.Math.Nat.{add-mul, pow-le-pow_right}
use Rattle.morris_index.proofs.ChooseLaws.{choose-le}
use Rattle.morris_index.proofs.IndexLaws.{IsPlaced, placed, both_le, within_24, counts_fit, half_size-few, index-first, index-second, map_number-none, half_index-few}
use Rattle.morris_index.proofs.SumLaws.{rest, differ, rank_is, rank_down, rank_up, renumbered_down, renumbered_up}

-- ---- a vacant point

pub vacant_own : (a b : Bool) → not (a || b) ≡ true → a ≡ false
vacant_own true b h = absurd (both_ways false refl h)
vacant_own false b h = refl

pub vacant_other : (a b : Bool) → not (a || b) ≡ true → b ≡ false
vacant_other true b h = absurd (both_ways false refl h)
vacant_other false true h = absurd (both_ways false refl h)
vacant_other false false h = refl

-- ---- a stone of a set that has gone from v to u

module _ (s u v n : ℕ) (within : s < 2 ^ n) (low : n ≤ 32) (free : has s u ≡ false) (here : has s v ≡ true) (u_in : u < n) where
  abbrev moved : ℕ
  moved = with_point (without_point s v) u

  pub moved-lt : moved < 2 ^ n
  moved-lt = with_point-lt (without_point s v) n u (without_point-lt s n v within) u_in

  pub count_of-moved : count_of moved ≡ count_of s
  count_of-moved =
      let none : has (without_point s v) u ≡ false = has-without s v u ∙ rw free (and_right (not (eqb u v)) false refl) in
      count_of-with (without_point s v) u (omega arith) none ∙ sym (count_of-without s v (omega (arith, point_lt s n v within here)) here)

  -- the point is one of the others, or the one that it went to
  pub moved-cases : (p : ℕ) → has moved p ≡ true → (p ≡ u) ⊎ (has s p ≡ true)
  moved-cases p y = elim (cases_eq p u) [
    | inl e ↦ inl e
    | inr d ↦ elim (cases_eq p v) [
      | inl e ↦ inr (ap (has s) e ∙ here)
      | inr e ↦ inr (sym (rest s u v free here p d e) ∙ y)
    ]
  ]

-- ---- a position by the sets of its stones

module _ (b : Shape) (n : ℕ) (points : b.points ≡ n) (low : n ≤ 24) (s : Sides) (lawful : IsPosition b s) where
  pub own_24 : s.own < 2 ^ 24
  own_24 = within_24 s.own n (placed b n s points lawful).own_within low

  pub other_24 : s.other < 2 ^ 24
  other_24 = within_24 s.other n (placed b n s points lawful).other_within low

  pub other_fits : count_of s.other ≤ n
  other_fits = omega (arith, counts_fit n (omega arith) s (placed b n s points lawful))

  pub own_lt : (p : ℕ) → has s.own p ≡ true → p < n
  own_lt p y = point_lt s.own n p (placed b n s points lawful).own_within y

  pub other_lt : (p : ℕ) → has s.other p ≡ true → p < n
  other_lt p y = point_lt s.other n p (placed b n s points lawful).other_within y

-- ---- the index by its three parts

pub start-few : (n : ℕ) (c : Counts) (k : ℕ) → n ≤ 24 → IsPair n c → start_of n c k ≤ 549755813888
start-few n c k low pair = elim (cases_eq k c.greater) [
  | inl e ↦ rw (eq-eqb k c.greater e) (omega arith)
  | inr d ↦ rw (ne_eqb k c.greater d) (half_size-few n c.greater c.lesser low half)
]
  where
    half : IsHalf n c.greater c.lesser
    half = record {
      own_least = omega (arith, pair.least, pair.ordered);
      own_most = pair.most;
      other_least = pair.least;
      other_most = omega (arith, pair.most, pair.ordered);
      fits = pair.fits;
    }

pub index-parts : (n : ℕ) (c : Counts) (p : Sides) → index_of n c p ≡ start_of n c (count_of p.own) + half_index n p
index-parts n c p = elim (cases_eq (count_of p.own) c.greater) [
  | inl e ↦ index-first n c p e ∙ rw (eq-eqb (count_of p.own) c.greater e) (omega arith)
  | inr d ↦ index-second n c p d ∙ rw (ne_eqb (count_of p.own) c.greater d) refl
]

module _ (n : ℕ) (low : n ≤ 24) (c : Counts) (s : Sides) (placed : IsPlaced n s) (own_few : count_of s.own ≤ 9) (other_few : count_of s.other ≤ 9) (u v : ℕ)
    (u_in : u < n) (free_own : has s.own u ≡ false) (free_other : has s.other u ≡ false) (here : has s.other v ≡ true) where
  pub before_count : count_of (unmove_sides s u v).own ≡ count_of s.other
  before_count = count_of-moved s.other u v n placed.other_within (omega arith) free_other here u_in

  pub before_placed : IsPlaced n (unmove_sides s u v)
  before_placed = record {
    own_within = moved-lt s.other u v n placed.other_within (omega arith) free_other here u_in;
    other_within = placed.own_within;
    apart = λ p y. elim (moved-cases s.other u v n placed.other_within (omega arith) free_other here u_in p y) [
      | inl e ↦ ap (has s.own) e ∙ free_own
      | inr z ↦ elim (cases_Bool (has s.own p)) [
        | inl x ↦ absurd (both_ways (has s.other p) (placed.apart p x) z)
        | inr x ↦ x
      ]
    ];
  }

  -- what the code adds up
  abbrev pub before_sum : ℕ
  before_sum = rank_of (map (number_outside 0) (members (unmove_sides s u v).own)) * choose (n - count_of s.other) (count_of s.own)
      + rank_of (map (number_outside (unmove_sides s u v).own) (members s.own))

  before_half : before_sum ≡ half_index n (unmove_sides s u v)
  unfolding half_index
  before_half = rw (map_number-none (members (unmove_sides s u v).own), before_count) refl

  pub before_index : start_of n c (count_of s.other) + before_sum ≡ index_of n c (unmove_sides s u v)
  before_index = sym (index-parts n c (unmove_sides s u v) ∙ ap₂ (λ k h. start_of n c k + h) before_count (sym before_half))

-- ---- the predecessor, by what its two points come to

-- the index of the position with the other player to move
module _ (n : ℕ) (low : n ≤ 24) (s : Sides) (placed : IsPlaced n s) (own_few : count_of s.own ≤ 9) (other_few : count_of s.other ≤ 9) where
  -- what the code adds up
  abbrev pub turned_sum : ℕ
  turned_sum = rank_of (members s.other) * choose (n - count_of s.other) (count_of s.own) + rank_of (map (number_outside s.other) (members s.own))

  turned_placed : IsPlaced n (sides s.other s.own)
  turned_placed = record {
    own_within = placed.other_within;
    other_within = placed.own_within;
    apart = λ p y. elim (cases_Bool (has s.own p)) [
      | inl x ↦ absurd (both_ways (has s.other p) (placed.apart p x) y)
      | inr x ↦ x
    ];
  }

  pub turned_rank : (mover : KeptSums) → AreKept 1 0 s.other mover → mover.rank ≡ rank_of (members s.other)
  turned_rank mover moved = rank_is 1 0 s.other mover moved (within_24 s.other n placed.other_within low) ∙ ap rank_of (map_number-none (members s.other))

  pub turned_within : (waiting : KeptSums) → AreKept 0 s.other s.own waiting → waiting.rank ≡ rank_of (map (number_outside s.other) (members s.own))
  turned_within waiting renumbered = rank_is 0 s.other s.own waiting renumbered (within_24 s.own n placed.own_within low)

  pub turned_few : turned_sum < 1307504 * 1307504
  unfolding half_index
  turned_few = half_index-few n (sides s.other s.own) low turned_placed other_few own_few

  pub turned_index : (c : Counts) → start_of n c (count_of s.other) + turned_sum ≡ index_of n c (sides s.other s.own)
  unfolding half_index
  turned_index c = sym (index-parts n c (sides s.other s.own))

  pub turned_index-few : (c : Counts) → IsPair n c → index_of n c (sides s.other s.own) < 2 ^ 60
  turned_index-few c pair = omega (arith, turned_index c, turned_few, start-few n c (count_of s.other) low pair)

-- how many sets there are of the points of one player outside those of the other
pub choices-few : (n a b : ℕ) → n ≤ 24 → choose (n - a) b ≤ 16777216
choices-few n a b low = omega (arith, choose-le (n - a) b, pow-le-pow_right {n = 2} (omega arith) {i = n - a} {j = 24} (omega arith))

-- what is added and taken away for one player's stones, times so many sets, and for the other's
pub times_few : (x k y : ℕ) → x ≤ 1200000000 → k ≤ 16777216 → y ≤ 1200000000 → (x * k < 2 ^ 59) × (x * k + y < 2 ^ 60)
times_few x k y h few h' =
    let most : x * k ≤ 1200000000 * 16777216 = both_le x k 1200000000 16777216 h few in
    (omega arith, omega arith)

both_grow : (k r r' x x' w w' y y' : ℕ) → r' + x' ≡ r + x → w' + y' ≡ w + y → (r' * k + w') + (x' * k + y') ≡ (r * k + w) + (x * k + y)
both_grow k r r' x x' w w' y y' e f = omega (arith, add-mul r' x' k, add-mul r x k, ap (λ z. z * k) e, f)

module _ (n : ℕ) (low : n ≤ 24) (c : Counts) (s : Sides) (placed : IsPlaced n s) (own_few : count_of s.own ≤ 9) (other_few : count_of s.other ≤ 9) (u v : ℕ)
    (u_in : u < n) (free_own : has s.own u ≡ false) (free_other : has s.other u ≡ false) (here : has s.other v ≡ true)
    (mover : KeptSums) (moved : AreKept 1 0 s.other mover) (waiting : KeptSums) (renumbered : AreKept 0 s.other s.own waiting) where
  v_in : v < n
  v_in = point_lt s.other n v placed.other_within here

  -- the parts of an index that are found for a stone that is taken back to u
  grown : (x x' y y' : ℕ) → rank_of (map (number_outside 0) (members (unmove_sides s u v).own)) + x' ≡ mover.rank + x
      → rank_of (map (number_outside (unmove_sides s u v).own) (members s.own)) + y' ≡ waiting.rank + y
      → index_of n c (unmove_sides s u v) + (x' * choose (n - count_of s.other) (count_of s.own) + y')
      ≡ index_of n c (sides s.other s.own) + (x * choose (n - count_of s.other) (count_of s.own) + y)
  grown x x' y y' e f =
      omega (
        arith,
        both_grow (choose (n - count_of s.other) (count_of s.own)) (rank_of (members s.other)) (rank_of (map (number_outside 0) (members (unmove_sides s u v).own))) x x'
            (rank_of (map (number_outside s.other) (members s.own))) (rank_of (map (number_outside (unmove_sides s u v).own) (members s.own))) y y'
            (e ∙ ap (λ r. r + x) (turned_rank n low s placed own_few other_few mover moved)) (f ∙ ap (λ r. r + y) (turned_within n low s placed own_few other_few waiting renumbered)),
        before_index n low c s placed own_few other_few u v u_in free_own free_other here,
        turned_index n low s placed own_few other_few c,
      )

  lower_index : u < v → index_of n c (unmove_sides s u v) + end_taken_back true n s v ≡ index_of n c (sides s.other s.own) + end_taken_back true n s u
  lower_index down =
      grown (moved_end true 0 s.other u) (moved_end true 0 s.other v) (renumbered_end true s.other s.own u) (renumbered_end true s.other s.own v)
      (rank_down 0 s.other u v (within_24 s.other n placed.other_within low) free_other here (omega arith) (omega (arith, v_in)) mover moved down)
      (renumbered_down s.other s.own u v (within_24 s.own n placed.own_within low) placed.apart free_other here free_own (omega arith) (omega (arith, v_in)) waiting renumbered down)

  higher_index : v < u → index_of n c (unmove_sides s u v) + end_taken_back false n s v ≡ index_of n c (sides s.other s.own) + end_taken_back false n s u
  higher_index up =
      grown (moved_end false 0 s.other u) (moved_end false 0 s.other v) (renumbered_end false s.other s.own u) (renumbered_end false s.other s.own v)
      (rank_up 0 s.other u v (within_24 s.other n placed.other_within low) free_other here (omega arith) (omega (arith, v_in)) mover moved up)
      (renumbered_up s.other s.own u v (within_24 s.own n placed.own_within low) placed.apart free_other here free_own (omega arith) (omega (arith, v_in)) waiting renumbered up)

  pub end_index : (lower : Bool) → ltb u v ≡ lower
      → index_of n c (unmove_sides s u v) + end_taken_back lower n s v ≡ index_of n c (sides s.other s.own) + end_taken_back lower n s u
  end_index true h = lower_index (ltb-true u v h)
  end_index false h = higher_index (differ s.other u v free_other here (ltb-false u v h))

-- ---- the position after a quiet move

module _ (n : ℕ) (low : n ≤ 24) (c : Counts) (s : Sides) (placed : IsPlaced n s) (own_few : count_of s.own ≤ 9) (other_few : count_of s.other ≤ 9) (u v : ℕ)
    (v_in : v < n) (free_own : has s.own v ≡ false) (free_other : has s.other v ≡ false) (here : has s.own u ≡ true) where
  pub after_count : count_of (move_sides s u v).other ≡ count_of s.own
  after_count = count_of-moved s.own v u n placed.own_within (omega arith) free_own here v_in

  pub after_placed : IsPlaced n (move_sides s u v)
  after_placed = record {
    own_within = placed.other_within;
    other_within = moved-lt s.own v u n placed.own_within (omega arith) free_own here v_in;
    apart = λ p y. elim (cases_Bool (has (move_sides s u v).other p)) [
      | inr x ↦ x
      | inl x ↦ elim (moved-cases s.own v u n placed.own_within (omega arith) free_own here v_in p x) [
        | inl e ↦ absurd (both_ways (has s.other p) (ap (has s.other) e ∙ free_other) y)
        | inr z ↦ absurd (both_ways (has s.other p) (placed.apart p z) y)
      ]
    ];
  }

  -- what the code adds up
  abbrev pub after_sum : ℕ
  after_sum = rank_of (members s.other) * choose (n - count_of s.other) (count_of s.own) + rank_of (map (number_outside s.other) (members (move_sides s u v).other))

  after_half : after_sum ≡ half_index n (move_sides s u v)
  unfolding half_index
  after_half = rw after_count refl

  pub after_few : after_sum < 1307504 * 1307504
  after_few = rw after_half (half_index-few n (move_sides s u v) low after_placed other_few (rw after_count own_few))

  pub after_index : start_of n c (count_of s.other) + after_sum ≡ index_of n c (move_sides s u v)
  after_index = sym (index-parts n c (move_sides s u v) ∙ ap (λ h. start_of n c (count_of s.other) + h) (sym after_half))

pub regrouped : (a b c : ℕ) → a + b + c ≡ a + (b + c)
regrouped a b c = omega arith
