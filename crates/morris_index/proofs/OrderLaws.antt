-- The sets of as many points have their ranks in the order of their masks.
use Rattle.std.proofs.Common.{◌≡◌, ℕ, zero, suc, ◌+◌, ◌^◌, ◌<◌, ◌≤◌, Bool, true, false, ◌&&◌, eqb, ltb, refl, sym, ap, ◌∙◌, inl, inr, map, arith}
use Rattle.std.proofs.lemmas.Bool.{cases_Bool, cases_eq, cases_lt, lt-ltb, and_right}
use Rattle.std.proofs.lemmas.Nat.Bits.{bit_at-pow_other}
use Rattle.std.specs.Int.Bits.{or_add_and}
use lib.Bits.{bit_and}
use Rattle.morris_board.specs.Sets.{has, members, count_of, with_point, set_where}
use Rattle.morris_board.proofs.PointsLaws.{has-none, has-above, has-and, has-set_where, set_where-lt, same_points}
use Rattle.morris_index.specs.Binomials.{choose}
use Rattle.morris_index.specs.Numbering.{rank_of, number_outside, count_below}
use Rattle.morris_index.proofs.RankLaws.{rank_below, rank-yes, rank-no, rank-lt, count-yes, count-no}
use Rattle.morris_index.proofs.SetLaws.{count_of-below}
use Rattle.morris_index.proofs.Following.{rank_set}

-- ---- a point above all others adds its bit

has_power-other : (p q : ℕ) → (q ≡ p → ⊥) → has (2 ^ p) q ≡ false
unfolding has
has_power-other p q d = ap (λ n. eqb n 1) (bit_at-pow_other p q d)

no_common : (s n : ℕ) → s < 2 ^ n → bit_and s (2 ^ n) ≡ 0
no_common s n small = same_points (bit_and s (2 ^ n)) 0 (λ q. has-and s (2 ^ n) q ∙ elim (cases_eq q n) [
  | inl e ↦ rw (e, has-above s n n small (omega arith)) (sym (has-none n))
  | inr d ↦ and_right (has s q) (has (2 ^ n) q) (has_power-other n q d) ∙ sym (has-none q)
])

pub with_top : (s n : ℕ) → s < 2 ^ n → with_point s n ≡ s + 2 ^ n
unfolding with_point
with_top s n small = omega (arith, or_add_and s (2 ^ n), no_common s n small)

-- ---- the order, from the sets of points below n

where-yes : (n : ℕ) (f : ℕ → Bool) → f n ≡ true → set_where (suc n) f ≡ set_where n f + 2 ^ n
unfolding set_where
where-yes n f h = rw h (with_top (set_where n f) n (set_where-lt n f))

where-no : (n : ℕ) (f : ℕ → Bool) → f n ≡ false → set_where (suc n) f ≡ set_where n f
unfolding set_where
where-no n f h = rw h refl

apart_none : (f : ℕ → Bool) (p : ℕ) → f p ≡ true → has 0 p ≡ false
apart_none f p h = has-none p

in_order : (f g : ℕ → Bool) (n : ℕ) → count_below f n ≡ count_below g n → set_where n f < set_where n g → rank_below 0 f n < rank_below 0 g n
unfolding set_where
in_order f g zero counts less = absurd (omega arith)
in_order f g (suc n) counts less = elim (cases_Bool (f n)) [
  | inl a ↦ elim (cases_Bool (g n)) [
    | inl b ↦
        let same : count_below f n ≡ count_below g n = omega (arith, count-yes f n a, count-yes g n b) in
        let lower : set_where n f < set_where n g = omega (arith, where-yes n f a, where-yes n g b) in
        omega (arith, rank-yes 0 f n a, rank-yes 0 g n b, in_order f g n same lower, ap (λ k. choose (number_outside 0 n) (suc k)) same)
    | inr b ↦ absurd (omega (arith, where-yes n f a, where-no n g b, set_where-lt n g))
  ]
  | inr a ↦ elim (cases_Bool (g n)) [
    | inl b ↦
        let same : count_below f n ≡ suc (count_below g n) = omega (arith, count-no f n a, count-yes g n b) in
        omega (arith, rank-no 0 f n a, rank-yes 0 g n b, rank-lt 0 f (apart_none f) n, ap (choose (number_outside 0 n)) same)
    | inr b ↦
        let same : count_below f n ≡ count_below g n = omega (arith, count-no f n a, count-no g n b) in
        let lower : set_where n f < set_where n g = omega (arith, where-no n f a, where-no n g b) in
        omega (arith, rank-no 0 f n a, rank-no 0 g n b, in_order f g n same lower)
  ]
]

-- ---- the order of sets

abbrev pub rank_at : ℕ → ℕ
rank_at s = rank_of (map (number_outside 0) (members s))

module _ (n : ℕ) (low : n ≤ 32) where
  own_points : (s : ℕ) → s < 2 ^ n → set_where n (has s) ≡ s
  own_points s small = same_points _ _ (λ p. has-set_where n (has s) p ∙ elim (cases_lt p n) [
    | inl l ↦ ap (λ b. b && has s p) (lt-ltb p n l)
    | inr g ↦ and_right (ltb p n) (has s p) (has-above s n p small g) ∙ sym (has-above s n p small g)
  ])

  module _ (s t : ℕ) (s_in : s < 2 ^ n) (t_in : t < 2 ^ n) (counts : count_of s ≡ count_of t) where
    pub rank_less : s < t → rank_at s < rank_at t
    rank_less less =
        let points : set_where n (has s) < set_where n (has t) = omega (arith, own_points s s_in, own_points t t_in) in
        let same : count_below (has s) n ≡ count_below (has t) n = sym (count_of-below s n s_in low) ∙ counts ∙ count_of-below t n t_in low in
        omega (arith, rank_set n 0 low s s_in, rank_set n 0 low t t_in, in_order (has s) (has t) n same points)

  pub mask_less : (s t : ℕ) → s < 2 ^ n → t < 2 ^ n → count_of s ≡ count_of t → rank_at s < rank_at t → s < t
  mask_less s t s_in t_in counts less = elim (cases_lt s t) [
    | inl l ↦ l
    | inr g ↦ elim (cases_eq s t) [
      | inl e ↦ absurd (omega (arith, ap rank_at e))
      | inr d ↦ absurd (omega (arith, rank_less t s t_in s_in (sym counts) (omega arith)))
    ]
  ]
