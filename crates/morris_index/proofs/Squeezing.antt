-- Sets read part by part: how the numbers of points, ranks and squeezed sets grow by a part, and
-- that the rank of a set outside another is that of the set of its numbers.
use Rattle.std.proofs.Common.{◌≡◌, ℕ, zero, suc, ◌+◌, ◌-◌, ◌*◌, ◌/◌, ◌%◌, ◌^◌, ◌<◌, ◌≤◌, Bool, true, false, not, ◌&&◌, cond, eqb, map, refl, sym, ◌∙◌, ap, ap₂, inl, inr, arith, lit<, pow-suc}
use Rattle.std.proofs.lemmas.Bool.{cases_Bool, both_ways}
use Rattle.std.proofs.lemmas.Nat.{div-add-mod', pow-add}
use Rattle.std.proofs.lemmas.Nat.Bits.{bit_at_cat_low, bit_at_cat_high}
use Rattle.std.proofs.Math.Nat.{mod-lt, pow-le-pow_right}
use Rattle.std.specs.Int.{bit_at}
use Rattle.morris_board.specs.Sets.{has, members}
use Rattle.morris_board.proofs.PointsLaws.{has-above}
use Rattle.morris_index.specs.Binomials.{choose}
use Rattle.morris_index.specs.Numbering.{rank_of, number_outside}
use Rattle.morris_index.specs.Sums.{total, term}
use Rattle.morris_index.specs.Parts.{bit_of_number, squeeze_below, part_rank}
use Rattle.morris_index.proofs.ChooseLaws.{pow-pos}
use Rattle.morris_index.proofs.RankLaws.{count_below, count-none, count-yes, count-no, number-zero, number-outside, number-inside, number-count, rank_below, rank-yes, rank-no}
use Rattle.morris_index.proofs.Moving.{total-zero, total-suc, rank-zero}
use Rattle.morris_index.proofs.IndexLaws.{number_outside-none}
use Rattle.morris_index.proofs.Following.{count-same, rank-same_below, rank_set}

-- ---- the points of a part

-- the bits from n on
pub has-from : (m n i : ℕ) → has (m / 2 ^ n) i ≡ has m (n + i)
unfolding has
has-from m n i =
    let back : (n + i) - n ≡ i = omega arith in
    ap (λ k. eqb k 1) (sym (ap (λ k. bit_at k (n + i)) (sym (div-add-mod' m (2 ^ n)))
    ∙ bit_at_cat_high (m / 2 ^ n) n (m % 2 ^ n) (n + i) (mod-lt m (pow-pos n)) (omega arith)
    ∙ ap (bit_at (m / 2 ^ n)) back))

-- the lowest bits
pub has-low : (m w i : ℕ) → i < w → has (m % 2 ^ w) i ≡ has m i
unfolding has
has-low m w i low = ap (λ k. eqb k 1) (sym (bit_at_cat_low (m / 2 ^ w) w (m % 2 ^ w) i low) ∙ ap (λ k. bit_at k i) (div-add-mod' m (2 ^ w)))

pub has-part : (m n w i : ℕ) → i < w → has (m / 2 ^ n % 2 ^ w) i ≡ has m (n + i)
has-part m n w i low = has-low (m / 2 ^ n) w i low ∙ has-from m n i

-- ---- what grows by a part: f from n on is g

module _ (f g : ℕ → Bool) (n w : ℕ) (same : (i : ℕ) → i < w → g i ≡ f (n + i)) where
  pub count-part : (i : ℕ) → i ≤ w → count_below f (n + i) ≡ count_below f n + count_below g i
  count-part zero low = let e : n + 0 ≡ n = omega arith in omega (arith, ap (count_below f) e, count-none g)
  count-part (suc i) low =
      let e : n + suc i ≡ suc (n + i) = omega arith in
      let before = count-part i (omega arith) in
      ap (count_below f) e ∙ elim (cases_Bool (g i)) [
        | inl y ↦ omega (arith, before, count-yes g i y, count-yes f (n + i) (sym (same i (omega arith)) ∙ y))
        | inr y ↦ omega (arith, before, count-no g i y, count-no f (n + i) (sym (same i (omega arith)) ∙ y))
      ]

  abbrev added : ℕ → ℕ
  added i = total (term g (λ k. n + k) (count_below f n + 1)) i

  pub rank-part : (i : ℕ) → i ≤ w → rank_below 0 f (n + i) ≡ rank_below 0 f n + added i
  rank-part zero low =
      let e : n + 0 ≡ n = omega arith in
      omega (arith, ap (rank_below 0 f) e, total-zero (term g (λ k. n + k) (count_below f n + 1)))
  rank-part (suc i) low =
      let e : n + suc i ≡ suc (n + i) = omega arith in
      let before = rank-part i (omega arith) in
      let unmove = total-suc (term g (λ k. n + k) (count_below f n + 1)) i in
      ap (rank_below 0 f) e ∙ elim (cases_Bool (g i)) [
        | inl y ↦
            let place : suc (count_below f (n + i)) ≡ count_below g i + (count_below f n + 1) = omega (arith, count-part i (omega arith)) in
            let here : term g (λ k. n + k) (count_below f n + 1) i ≡ choose (n + i) (count_below g i + (count_below f n + 1)) = rw y refl in
            let there : choose (number_outside 0 (n + i)) (suc (count_below f (n + i))) ≡ choose (n + i) (count_below g i + (count_below f n + 1)) =
            ap₂ choose (number_outside-none (n + i)) place in
            omega (arith, before, unmove, here, there, rank-yes 0 f (n + i) (sym (same i (omega arith)) ∙ y))
        | inr y ↦
            let here : term g (λ k. n + k) (count_below f n + 1) i ≡ 0 = rw y refl in
            omega (arith, before, unmove, here, rank-no 0 f (n + i) (sym (same i (omega arith)) ∙ y))
      ]

module _ (outside o n w : ℕ) (same : (i : ℕ) → i < w → has o i ≡ has outside (n + i)) where
  pub number-part : (i : ℕ) → i ≤ w → number_outside outside (n + i) ≡ number_outside outside n + number_outside o i
  number-part i low =
      omega (arith, number-count outside (n + i), number-count outside n, number-count o i, count-part (has outside) (has o) n w same i low)

  module _ (set s : ℕ) (same_set : (i : ℕ) → i < w → has s i ≡ has set (n + i)) where
    pub squeeze-part : (i : ℕ) → i ≤ w
        → squeeze_below outside set (n + i) ≡ squeeze_below outside set n + squeeze_below o s i * 2 ^ number_outside outside n
    unfolding squeeze_below
    squeeze-part zero low =
        let e : n + 0 ≡ n = omega arith in
        omega (arith, ap (total (bit_of_number outside set)) e, ap (λ k. k * 2 ^ number_outside outside n) (total-zero (bit_of_number o s)))
    squeeze-part (suc i) low =
        let e : n + suc i ≡ suc (n + i) = omega arith in
        let before = squeeze-part i (omega arith) in
        let here : bit_of_number outside set (n + i) ≡ bit_of_number o s i * 2 ^ number_outside outside n =
        rw (← same i (omega arith), ← same_set i (omega arith), number-part i (omega arith)) (scaled (has s i && not (has o i)) (number_outside outside n) (number_outside o i)) in
        ap (total (bit_of_number outside set)) e
        ∙ omega (arith, before, here, total-suc (bit_of_number outside set) (n + i), ap (λ k. k * 2 ^ number_outside outside n) (total-suc (bit_of_number o s) i))
      where
        scaled : (b : Bool) (a k : ℕ) → cond {A = ℕ} b (2 ^ (a + k)) 0 ≡ cond {A = ℕ} b (2 ^ k) 0 * 2 ^ a
        scaled true a k = omega (arith, pow-add 2 a k)
        scaled false a k = omega arith

-- ---- the squeezed set

-- the set with a new greatest point
module _ (x f : ℕ) (low : x < 2 ^ f) where
  one_more_is : x + 2 ^ f ≡ 1 * 2 ^ f + x
  one_more_is = omega arith

  pub has-top : has (x + 2 ^ f) f ≡ true
  unfolding has
  has-top =
      let none : f - f ≡ 0 = omega arith in
      ap (λ k. eqb k 1) (ap (λ k. bit_at k f) one_more_is ∙ bit_at_cat_high 1 f x f low (omega arith) ∙ ap (bit_at 1) none)

  pub has-rest : (p : ℕ) → p < f → has (x + 2 ^ f) p ≡ has x p
  unfolding has
  has-rest p h = ap (λ k. eqb k 1) (ap (λ k. bit_at k p) one_more_is ∙ bit_at_cat_low 1 f x p h)

-- x has, among the points below f, as many points as the set has below n, and the rank that these
-- have outside the other set
pub record IsSqueezed (outside set n x f : ℕ) : Type 0 where
  pub within : x < 2 ^ f
  pub counted : count_below (has x) f ≡ count_below (has set) n
  pub ranked : rank_below 0 (has x) f ≡ rank_below outside (has set) n

module _ (outside set : ℕ) where
  abbrev Squeezed : ℕ → Type 0
  Squeezed n = IsSqueezed outside set n (squeeze_below outside set n) (number_outside outside n)

  pub mask-none : squeeze_below outside set 0 ≡ 0
  unfolding squeeze_below
  mask-none = total-zero (bit_of_number outside set)

  squeeze-none : Squeezed 0
  squeeze-none =
      rw (mask-none, number-zero outside) (record {
        within = lit< tt;
        counted = count-none (has 0) ∙ sym (count-none (has set));
        ranked = rank-zero 0 (has 0) ∙ sym (rank-zero outside (has set));
      })

  module _ (n : ℕ) (before : Squeezed n) where
    abbrev x : ℕ
    x = squeeze_below outside set n

    abbrev f : ℕ
    f = number_outside outside n

    same_mask : bit_of_number outside set n ≡ 0 → squeeze_below outside set (suc n) ≡ x
    unfolding squeeze_below
    same_mask e = omega (arith, total-suc (bit_of_number outside set) n, e)

    more_mask : bit_of_number outside set n ≡ 2 ^ f → squeeze_below outside set (suc n) ≡ x + 2 ^ f
    unfolding squeeze_below
    more_mask e = omega (arith, total-suc (bit_of_number outside set) n, e)

    squeeze-inside : has outside n ≡ true → has set n ≡ false → Squeezed (suc n)
    squeeze-inside y none =
        rw (same_mask (rw none refl), number-inside outside n y) (record {
          within = before.within;
          counted = before.counted ∙ sym (count-no (has set) n none);
          ranked = before.ranked ∙ sym (rank-no outside (has set) n none);
        })

    squeeze-vacant : has outside n ≡ false → has set n ≡ false → Squeezed (suc n)
    squeeze-vacant free none =
        let above : has x f ≡ false = has-above x f f before.within (omega arith) in
        rw (same_mask (rw none refl), number-outside outside n free) (record {
          within = omega (arith, before.within, pow-suc 2 f);
          counted = count-no (has x) f above ∙ before.counted ∙ sym (count-no (has set) n none);
          ranked = rank-no 0 (has x) f above ∙ before.ranked ∙ sym (rank-no outside (has set) n none);
        })

    squeeze-point : has outside n ≡ false → has set n ≡ true → Squeezed (suc n)
    squeeze-point free here =
        let top = has-top x f before.within in
        let rest = has-rest x f before.within in
        let counts : count_below (has (x + 2 ^ f)) f ≡ count_below (has set) n = count-same (has (x + 2 ^ f)) (has x) f rest ∙ before.counted in
        rw (more_mask (rw (here, free) refl), number-outside outside n free) (record {
          within = omega (arith, before.within, pow-suc 2 f);
          counted = omega (arith, count-yes (has (x + 2 ^ f)) f top, counts, count-yes (has set) n here);
          ranked = omega (
            arith,
            rank-yes 0 (has (x + 2 ^ f)) f top,
            rank-same_below 0 (has (x + 2 ^ f)) (has x) f rest,
            before.ranked,
            rank-yes outside (has set) n here,
            ap₂ choose (number_outside-none f) (ap suc counts),
          );
        })

  module _ (apart : (p : ℕ) → has set p ≡ true → has outside p ≡ false) where
    none_here : (n : ℕ) → has outside n ≡ true → has set n ≡ false
    none_here n y = elim (cases_Bool (has set n)) [
      | inl here ↦ absurd (both_ways (has outside n) (apart n here) y)
      | inr none ↦ none
    ]

    pub squeeze-is : (n : ℕ) → Squeezed n
    squeeze-is zero = squeeze-none
    squeeze-is (suc n) = elim (cases_Bool (has outside n)) [
      | inl y ↦ squeeze-inside n (squeeze-is n) y (none_here n y)
      | inr free ↦ elim (cases_Bool (has set n)) [
        | inl here ↦ squeeze-point n (squeeze-is n) free here
        | inr none ↦ squeeze-vacant n (squeeze-is n) free none
      ]
    ]

    pub squeeze-24 : (n : ℕ) → n ≤ 24 → squeeze_below outside set n < 2 ^ 24
    squeeze-24 n low =
        omega (arith, (squeeze-is n).within, pow-le-pow_right {n = 2} (omega arith) {i = number_outside outside n} {j = 24} (omega (arith, number-count outside n)))

    pub squeeze-rank : set < 2 ^ 24
        → rank_of (map (number_outside 0) (members (squeeze_below outside set 24))) ≡ rank_of (map (number_outside outside) (members set))
    squeeze-rank within =
        rank_set (number_outside outside 24) 0 (omega (arith, number-count outside 24)) (squeeze_below outside set 24) (squeeze-is 24).within
        ∙ (squeeze-is 24).ranked
        ∙ sym (rank_set 24 outside (omega arith) set within)

-- ---- the parts of a board

-- what the points from a start on add
module _ (set start width : ℕ) where
  pub count-from : count_below (has set) (start + width) ≡ count_below (has set) start + count_below (has (set / 2 ^ start % 2 ^ width)) width
  count-from = count-part (has set) (has (set / 2 ^ start % 2 ^ width)) start width (has-part set start width) width (omega arith)

  pub rank-from : rank_below 0 (has set) (start + width)
      ≡ rank_below 0 (has set) start + part_rank start width (count_below (has set) start) (set / 2 ^ start % 2 ^ width)
  unfolding part_rank
  rank-from = rank-part (has set) (has (set / 2 ^ start % 2 ^ width)) start width (has-part set start width) width (omega arith)
