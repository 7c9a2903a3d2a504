-- The set of a rank, found from its highest point down: what holds of the points found so far.
use Rattle.std.proofs.Common.{◌≡◌, ℕ, zero, suc, ◌+◌, ◌-◌, ◌^◌, ◌<◌, ◌≤◌, true, false, ◌||◌, eqb, ◌∷◌, length, sym, ◌∙◌, ap, inl, inr, ◌⊎◌, arith}
use Rattle.std.proofs.lemmas.Bool.{cases_Bool, cases_lt, both_ways, eqb-true}
use Rattle.morris_board.specs.Sets.{has, members, count_of, with_point}
use Rattle.morris_board.proofs.PointsLaws.{has-none, has-with, members-none, count_of-with}
use Rattle.morris_index.specs.Binomials.{choose}
use Rattle.morris_index.specs.Numbering.{rank_from, rank_of, IsRanked}
use Rattle.morris_index.proofs.ChooseLaws.{choose-none, choose-one, choose-suc, choose-le_more, pow-pos}
use Rattle.morris_index.proofs.IndexLaws.{map_number-none}
use Rattle.morris_board.proofs.SetLaws.{with_point-lt}
use Rattle.morris_index.proofs.SetLaws.{members-with}

-- The points in `found` are the last of the set, `left` are still to come, of rank `rest`: fewer
-- than there are sets of as many points below n, or below any of `found`.
pub record IsUnranking (n count rank left rest found : ℕ) : Type 0 where
  pub within : found < 2 ^ n
  pub counted : count_of found + left ≡ count
  pub ranked : rank_from (suc left) (members found) + rest ≡ rank
  pub small : rest < choose n left
  pub below : (p : ℕ) → has found p ≡ true → rest < choose p left

count_of-none : count_of 0 ≡ 0
unfolding count_of
count_of-none = ap length members-none

module _ (n count rank : ℕ) where
  pub unranking-start : rank < choose n count → IsUnranking n count rank count rank 0
  unranking-start h = record {
    within = pow-pos n;
    counted = omega (arith, count_of-none);
    ranked = rw members-none (omega arith);
    small = h;
    below = λ p y. absurd (both_ways (has 0 p) (has-none p) y);
  }

  -- the greatest point whose sets come before the rank is the next one of the set
  module _ (left rest found p : ℕ) (s : IsUnranking n count rank (suc left) rest found) (few : n ≤ 24) (fits : choose p (suc left) ≤ rest)
      (greatest : (q : ℕ) → p < q → q ≤ 24 → rest < choose q (suc left)) where
    -- a point whose sets go past the rank lies above it
    under : (q : ℕ) → rest < choose q (suc left) → p < q
    under q h = elim (cases_lt p q) [
      | inl l ↦ l
      | inr g ↦ absurd (omega (arith, choose-le_more q p (suc left) g))
    ]

    low : p < n
    low = under n s.small

    -- the sets of the points up to it go past the rank
    next_small : rest < choose (suc p) (suc left)
    next_small = greatest (suc p) (omega arith) (omega (arith, low))

    abbrev next : ℕ
    next = rest - choose p (suc left)

    next_below : (q : ℕ) → p ≤ q → next < choose q left
    next_below q h = omega (arith, next_small, choose-suc p left, choose-le_more p q left h)

    above : (q : ℕ) → has found q ≡ true → p < q
    above q h = under q (s.below q h)

    not_yet : has found p ≡ false
    not_yet = elim (cases_Bool (has found p)) [
      | inl y ↦ absurd (omega (arith, above p y))
      | inr y ↦ y
    ]

    new : (q : ℕ) → has (with_point found p) q ≡ true → (has found q ≡ true) ⊎ (q ≡ p)
    new q h = elim (cases_Bool (has found q)) [
      | inl y ↦ inl y
      | inr y ↦ inr (eqb-true q p (sym (has-with found p q ∙ ap (λ b. b || eqb q p) y) ∙ h))
    ]

    members_now : members (with_point found p) ≡ p ∷ members found
    members_now = members-with found p (omega (arith, low)) above

    unranking-next : IsUnranking n count rank left (rest - choose p (suc left)) (with_point found p)
    unranking-next = record {
      within = with_point-lt found n p s.within low;
      counted = omega (arith, count_of-with found p (omega (arith, low)) not_yet, s.counted);
      ranked = rw members_now (omega (arith, s.ranked));
      small = next_below n (omega (arith, low));
      below = λ q h. elim (new q h) [
        | inl y ↦ next_below q (omega (arith, above q y))
        | inr e ↦ next_below q (omega (arith, e))
      ];
    }

  pub unranking-unmove : (left rest found p : ℕ) → 0 < left → IsUnranking n count rank left rest found → n ≤ 24 → choose p left ≤ rest
      → ((q : ℕ) → p < q → q ≤ 24 → rest < choose q left) → IsUnranking n count rank (left - 1) (rest - choose p left) (with_point found p)
  unranking-unmove zero rest found p some s few fits greatest = absurd (omega arith)
  unranking-unmove (suc left) rest found p some s few fits greatest =
      let e : suc left - 1 ≡ left = omega arith in
      rw e (unranking-next left rest found p s few fits greatest)

  pub unranking-end : (rest found : ℕ) → IsUnranking n count rank 0 rest found → IsRanked n 0 count rank found
  unfolding rank_of
  unranking-end rest found s = record {
    within = s.within;
    apart = λ p h. has-none p;
    counted = omega (arith, s.counted);
    ranked = rw (map_number-none (members found)) (omega (arith, s.ranked, s.small, choose-none n));
  }

  -- where one point is to come, it is the rank
  module _ (rest found : ℕ) (s : IsUnranking n count rank 1 rest found) (few : n ≤ 24) where
    pub last_lt : rest < 24
    last_lt = omega (arith, s.small, choose-one n)

    last : IsUnranking n count rank 0 (rest - choose rest 1) (with_point found rest)
    last = unranking-unmove 1 rest found rest (omega arith) s few (omega (arith, choose-one rest)) (λ q h l. omega (arith, choose-one q))

    pub unranking-last : IsRanked n 0 count rank (with_point found rest)
    unranking-last = unranking-end (rest - choose rest 1) (with_point found rest) last
