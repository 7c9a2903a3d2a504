-- Outside a set, each rank is that of a set. It is found from the highest point down: what holds of
-- the points taken so far.
use Rattle.std.proofs.Common.{◌≡◌, ℕ, zero, suc, ◌+◌, ◌-◌, ◌^◌, ◌<◌, ◌≤◌, true, false, ◌||◌, eqb, ◌∷◌, map, length, refl, sym, ◌∙◌, ap, inl, inr, ◌⊎◌, arith}
use Rattle.std.proofs.lemmas.Bool.{cases_Bool, cases_eq, cases_lt, both_ways, eqb-true}
use Rattle.morris_board.specs.Sets.{has, members, count_of, with_point}
use Rattle.morris_board.proofs.PointsLaws.{has-none, has-with, members-none, count_of-with}
use Rattle.morris_index.specs.Binomials.{choose}
use Rattle.morris_index.specs.Numbering.{rank_from, rank_of, number_outside, IsRanked}
use Rattle.morris_index.proofs.ChooseLaws.{choose-none, choose-zero, choose-suc, pow-pos}
use Rattle.morris_index.proofs.RankLaws.{number-outside, number-inside}
use Rattle.morris_board.proofs.SetLaws.{with_point-lt}
use Rattle.morris_index.proofs.SetLaws.{members-with}

-- The points from `point` on have been looked at: those in `taken` are the last of the set, `left`
-- are still to come, of rank `rest`.
pub record IsUnranking (n outside count rank point left rest taken : ℕ) : Type 0 where
  pub within : taken < 2 ^ n
  pub above : (p : ℕ) → has taken p ≡ true → point ≤ p
  pub apart : (p : ℕ) → has taken p ≡ true → has outside p ≡ false
  pub counted : count_of taken + left ≡ count
  pub ranked : rank_from (suc left) (map (number_outside outside) (members taken)) + rest ≡ rank
  pub small : rest < choose (number_outside outside point) left

-- what some fact of each point of the empty set says
of_none : (P : ℕ → Type 0) → (p : ℕ) → has 0 p ≡ true → P p
of_none P p h = absurd (both_ways (has 0 p) (has-none p) h)

count_of-none : count_of 0 ≡ 0
unfolding count_of
count_of-none = ap length members-none

module _ (n outside count rank : ℕ) where
  pub unranking-start : rank < choose (number_outside outside n) count → IsUnranking n outside count rank n count rank 0
  unranking-start h = record {
    within = pow-pos n;
    above = of_none (λ p. n ≤ p);
    apart = of_none (λ p. has outside p ≡ false);
    counted = omega (arith, count_of-none);
    ranked = rw members-none (omega arith);
    small = h;
  }

  -- while points are to come, there is one to look at
  pub unranking-more : (point left rest taken : ℕ) → 0 < left → IsUnranking n outside count rank point left rest taken → 0 < number_outside outside point
  unranking-more point zero rest taken some s = absurd (omega arith)
  unranking-more point (suc left) rest taken some s = elim (cases_eq (number_outside outside point) 0) [
    | inl e ↦ absurd (omega (arith, s.small, ap (λ m. choose m (suc left)) e, choose-zero left))
    | inr d ↦ omega arith
  ]

  module _ (p left rest taken : ℕ) (s : IsUnranking n outside count rank (suc p) left rest taken) where
    below : (q : ℕ) → has taken q ≡ true → p ≤ q
    below q h = omega (arith, s.above q h)

    -- a point outside the numbering
    pub unranking-inside : has outside p ≡ true → IsUnranking n outside count rank p left rest taken
    unranking-inside h = record {
      within = s.within;
      above = below;
      apart = s.apart;
      counted = s.counted;
      ranked = s.ranked;
      small = rw (← number-inside outside p h) s.small;
    }

    -- a point whose subsets come after the rank
    pub unranking-skip : rest < choose (number_outside outside p) left → IsUnranking n outside count rank p left rest taken
    unranking-skip h = record {
      within = s.within;
      above = below;
      apart = s.apart;
      counted = s.counted;
      ranked = s.ranked;
      small = h;
    }

  -- a point that is taken
  module _ (p left rest taken : ℕ) (s : IsUnranking n outside count rank (suc p) (suc left) rest taken) (low : p < n) (few : n ≤ 24)
      (free : has outside p ≡ false) (fits : choose (number_outside outside p) (suc left) ≤ rest) where
    new : (q : ℕ) → has (with_point taken p) q ≡ true → (has taken q ≡ true) ⊎ (q ≡ p)
    new q h = elim (cases_Bool (has taken q)) [
      | inl y ↦ inl y
      | inr y ↦ inr (eqb-true q p (sym (has-with taken p q ∙ ap (λ b. b || eqb q p) y) ∙ h))
    ]

    not_yet : has taken p ≡ false
    not_yet = elim (cases_Bool (has taken p)) [
      | inl y ↦ absurd (omega (arith, s.above p y))
      | inr y ↦ y
    ]

    members_now : members (with_point taken p) ≡ p ∷ members taken
    members_now = members-with taken p (omega arith) (λ k h. omega (arith, s.above k h))

    pub unranking-take : IsUnranking n outside count rank p left (rest - choose (number_outside outside p) (suc left)) (with_point taken p)
    unranking-take = record {
      within = with_point-lt taken n p s.within low;
      above = λ q h. elim (new q h) [ inl y ↦ omega (arith, s.above q y) | inr e ↦ omega (arith, e) ];
      apart = λ q h. elim (new q h) [ inl y ↦ s.apart q y | inr e ↦ rw e free ];
      counted = omega (arith, count_of-with taken p (omega arith) not_yet, s.counted);
      ranked = rw members_now (omega (arith, s.ranked));
      small = omega (arith, rw (number-outside outside p free, choose-suc) at s.small);
    }

  pub unranking-end : (point rest taken : ℕ) → IsUnranking n outside count rank point 0 rest taken → IsRanked n outside count rank taken
  unfolding rank_of
  unranking-end point rest taken s = record {
    within = s.within;
    apart = s.apart;
    counted = omega (arith, s.counted);
    ranked = omega (arith, s.ranked, s.small, choose-none (number_outside outside point));
  }

-- ---- each rank is that of a set

none_below : (outside : ℕ) → number_outside outside 0 ≡ 0
unfolding number_outside
none_below outside = refl

module _ (n outside count rank : ℕ) (few : n ≤ 24) where
  -- from what is found above a point, the points below it give the rest
  ranked_from : (point left rest taken : ℕ) → point ≤ n → IsUnranking n outside count rank point left rest taken
      → (set : ℕ) × IsRanked n outside count rank set
  ranked_from point zero rest taken low h = (taken, unranking-end n outside count rank point rest taken h)
  ranked_from zero (suc left) rest taken low h =
      absurd (omega (arith, unranking-more n outside count rank zero (suc left) rest taken (omega arith) h, none_below outside))
  ranked_from (suc p) (suc left) rest taken low h = elim (cases_Bool (has outside p)) [
    | inl inside ↦ ranked_from p (suc left) rest taken (omega arith) (unranking-inside n outside count rank p (suc left) rest taken h inside)
    | inr free ↦ elim (cases_lt rest (choose (number_outside outside p) (suc left))) [
      | inl before ↦ ranked_from p (suc left) rest taken (omega arith) (unranking-skip n outside count rank p (suc left) rest taken h before)
      | inr fits ↦ ranked_from p left _ _ (omega arith) (unranking-take n outside count rank p left rest taken h (omega arith) few free fits)
    ]
  ]

  pub ranked_set : rank < choose (number_outside outside n) count → (set : ℕ) × IsRanked n outside count rank set
  ranked_set h = ranked_from n count rank 0 (omega arith) (unranking-start n outside count rank h)
