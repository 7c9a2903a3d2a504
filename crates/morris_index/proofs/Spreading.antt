-- Numbers outside a set become points again: each point of the set, from the least on, moves up what
-- stands there or past it.
use Rattle.std.proofs.Common.{◌≡◌, ℕ, zero, suc, ◌+◌, ◌-◌, ◌*◌, ◌/◌, ◌%◌, ◌^◌, ◌<◌, ◌≤◌, true, false, not, ◌&&◌, cond, eqb, map, refl, sym, ◌∙◌, ap, subst, inl, inr, arith}
use Rattle.std.proofs.lemmas.Bool.{cases_Bool, cases_eq, cases_lt, both_ways, eqb-true, eqb-false}
use Rattle.std.proofs.lemmas.Nat.{div-add-mod', pow-add, mul-add-lt, shr-shr, shr_high}
use Rattle.std.proofs.lemmas.Nat.Bits.{bit_at_cat_low}
use Rattle.std.proofs.Math.Nat.{add-mul, mul_assoc, mul_comm, mod-lt, pow-le-pow_right}
use Rattle.std.specs.Int.{bit_at}
use Rattle.morris_board.specs.Sets.{has, members, count_of}
use Rattle.morris_board.proofs.SetLaws.{point_lt, lt_from_points}
use Rattle.morris_board.proofs.PointsLaws.{has-above}
use Rattle.morris_index.specs.Numbering.{rank_of, number_outside, IsRanked}
use Rattle.morris_index.specs.Sums.{total}
use Rattle.morris_index.specs.Parts.{bit_of_number, squeeze_below}
use Rattle.morris_index.proofs.ChooseLaws.{pow-pos}
use Rattle.morris_index.proofs.RankLaws.{count_below, count-yes, count-no, count_more, number-zero, number-outside, number-inside, number-count}
use Rattle.morris_index.proofs.Moving.{total-zero, total-suc, alike}
use Rattle.morris_index.proofs.SetLaws.{count_of-below}
use Rattle.morris_index.proofs.Squeezing.{mask-none, squeeze-is, squeeze-rank}

-- The points of the set below b are gone through: numbers stand at the free points below b, and the
-- others follow from b on.
pub record IsSpreading (outside numbers b x : ℕ) : Type 0 where
  pub apart : (p : ℕ) → p < b → has x p ≡ true → has outside p ≡ false
  pub split : squeeze_below outside x b + x / 2 ^ b * 2 ^ number_outside outside b ≡ numbers

pub spreading-start : (outside numbers : ℕ) → IsSpreading outside numbers 0 numbers
spreading-start outside numbers = record {
  apart = λ p low h. absurd (omega arith);
  split =
      let none : 2 ^ number_outside outside 0 ≡ 1 = ap (λ k. 2 ^ k) (number-zero outside) in
      omega (arith, mask-none outside numbers, ap (λ k. numbers / 2 ^ 0 * k) none);
}

bit_yes : (x b : ℕ) → has x b ≡ true → x / 2 ^ b % 2 ≡ 1
unfolding has
bit_yes x b h = eqb-true _ _ h

bit_no : (x b : ℕ) → has x b ≡ false → x / 2 ^ b % 2 ≡ 0
unfolding has
bit_no x b h = let other = eqb-false (x / 2 ^ b % 2) 1 h in omega arith

squeeze-suc : (outside x b : ℕ) → squeeze_below outside x (suc b) ≡ squeeze_below outside x b + bit_of_number outside x b
unfolding squeeze_below
squeeze-suc outside x b = total-suc (bit_of_number outside x) b

twice : (b : ℕ) → 2 ^ suc b ≡ 2 ^ b * 2
twice b = let e : suc b ≡ b + 1 = omega arith in ap (λ k. 2 ^ k) e ∙ pow-add 2 b 1

module _ (outside numbers b x : ℕ) (s : IsSpreading outside numbers b x) where
  abbrev rest : ℕ
  rest = x / 2 ^ b

  abbrev scale : ℕ
  scale = 2 ^ number_outside outside b

  -- where the point b is free, what stands there stays
  pub spreading-free : has outside b ≡ false → IsSpreading outside numbers (suc b) x
  spreading-free free = record {
    apart = λ p low h. elim (cases_eq p b) [
      | inl e ↦ ap (has outside) e ∙ free
      | inr d ↦ s.apart p (omega arith) h
    ];
    split =
        omega (
          arith,
          squeeze-suc outside x b,
          here,
          ap (λ k. k * 2 ^ number_outside outside (suc b)) half,
          ap (λ k. (rest / 2) * k) (ap (λ k. 2 ^ k) (number-outside outside b free) ∙ twice (number_outside outside b)),
          ap (λ k. k * scale) (sym (div-add-mod' rest 2)),
          add-mul (rest / 2 * 2) (rest % 2) scale,
          mul_assoc (rest / 2) 2 scale,
          ap (λ k. (rest / 2) * k) (mul_comm 2 scale),
          s.split,
        );
  }
    where
      half : x / 2 ^ suc b ≡ rest / 2
      half = let e : suc b ≡ b + 1 = omega arith in ap (λ k. x / 2 ^ k) e ∙ sym (shr-shr x b 1)

      here : bit_of_number outside x b ≡ (rest % 2) * scale
      here = elim (cases_Bool (has x b)) [
        | inl y ↦ let w : bit_of_number outside x b ≡ scale = rw (y, free) refl in omega (arith, w, ap (λ k. k * scale) (bit_yes x b y))
        | inr n ↦ let w : bit_of_number outside x b ≡ 0 = rw n refl in omega (arith, w, ap (λ k. k * scale) (bit_no x b n))
      ]

  -- where it is one of the set, what stands there or past it moves up
  module _ (taken : has outside b ≡ true) where
    abbrev low : ℕ
    low = x % 2 ^ b

    abbrev y : ℕ
    y = x + rest * 2 ^ b

    x_is : x ≡ rest * 2 ^ b + low
    x_is = sym (div-add-mod' x (2 ^ b))

    y_is : y ≡ rest * 2 ^ suc b + low
    y_is = omega (arith, x_is, ap (λ k. rest * k) (twice b), mul_assoc rest (2 ^ b) 2)

    low_in : low < 2 ^ b
    low_in = mod-lt x (pow-pos b)

    above : y / 2 ^ suc b ≡ rest
    above = ap (λ k. k / 2 ^ suc b) y_is ∙ shr_high rest (suc b) low (omega (arith, low_in, twice b))

    same : (p : ℕ) → p < b → has y p ≡ has x p
    unfolding has
    same p h =
        ap (λ k. eqb k 1) (ap (λ k. bit_at k p) y_is ∙ bit_at_cat_low rest (suc b) low p (omega arith)
        ∙ sym (ap (λ k. bit_at k p) x_is ∙ bit_at_cat_low rest b low p h))

    gone : has y b ≡ false
    unfolding has
    gone = ap (λ k. eqb k 1) (ap (λ k. bit_at k b) y_is ∙ bit_at_cat_low rest (suc b) low b (omega arith)) ∙ has-above low b b low_in (omega arith)

    lower : squeeze_below outside y b ≡ squeeze_below outside x b
    unfolding squeeze_below
    lower =
        omega (
          arith,
          alike (bit_of_number outside y) (bit_of_number outside x) 0 b (omega arith)
              (λ p from to. ap (λ k. cond (k && not (has outside p)) (2 ^ number_outside outside p) 0) (same p to)),
          total-zero (bit_of_number outside y),
          total-zero (bit_of_number outside x),
        )

    pub spreading-taken : IsSpreading outside numbers (suc b) y
    spreading-taken = record {
      apart = λ p l h. elim (cases_eq p b) [
        | inl e ↦ absurd (both_ways (has y p) (ap (has y) e ∙ gone) h)
        | inr d ↦ s.apart p (omega arith) (sym (same p (omega arith)) ∙ h)
      ];
      split =
          let w : bit_of_number outside y b ≡ 0 = rw gone refl in
          omega (
            arith,
            squeeze-suc outside y b,
            w,
            lower,
            ap (λ k. k * 2 ^ number_outside outside (suc b)) above,
            ap (λ k. rest * 2 ^ k) (number-inside outside b taken),
            s.split,
          );
    }

-- up to a number below which no further point of the set stands
spreading_on : (outside numbers b x : ℕ) → IsSpreading outside numbers b x → (k : ℕ) → count_below (has outside) (k + b) ≡ count_below (has outside) b
    → IsSpreading outside numbers (k + b) x
spreading_on outside numbers b x s zero none = let e : b ≡ 0 + b = omega arith in subst (λ m. IsSpreading outside numbers m x) e s
spreading_on outside numbers b x s (suc k) none =
    let e : suc (k + b) ≡ suc k + b = omega arith in
    let whole = ap (count_below (has outside)) e in
    elim (cases_Bool (has outside (k + b))) [
      | inl y ↦ absurd (omega (arith, none, whole, count-yes (has outside) (k + b) y, count_more (has outside) b k))
      | inr free ↦ subst (λ m. IsSpreading outside numbers m x) e
          (spreading-free outside numbers (k + b) x
          (spreading_on outside numbers b x s k (omega (arith, none, whole, count-no (has outside) (k + b) free))) free)
    ]

pub spreading-on : (outside numbers b x m : ℕ) → IsSpreading outside numbers b x → b ≤ m → count_below (has outside) m ≡ count_below (has outside) b
    → IsSpreading outside numbers m x
spreading-on outside numbers b x m s from none =
    let e : (m - b) + b ≡ m = omega arith in
    subst (λ k. IsSpreading outside numbers k x) e (spreading_on outside numbers b x s (m - b) (ap (count_below (has outside)) e ∙ none))

-- what stands so far fits the board
pub spreading-within : (outside numbers b x : ℕ) → b ≤ 24 → numbers < 2 ^ number_outside outside 24 → IsSpreading outside numbers b x → x < 2 ^ 24
spreading-within outside numbers b x board fits s =
    omega (arith, sym (div-add-mod' x (2 ^ b)), mul-add-lt (x / 2 ^ b) (2 ^ b) (x % 2 ^ b) (2 ^ (24 - b)) few (mod-lt x (pow-pos b)), whole)
  where
    back : (24 - b) + b ≡ 24
    back = omega arith

    whole : 2 ^ b * 2 ^ (24 - b) ≡ 2 ^ 24
    whole = let e : b + (24 - b) ≡ 24 = omega arith in sym (pow-add 2 b (24 - b)) ∙ ap (λ k. 2 ^ k) e

    numbered : number_outside outside 24 ≤ (24 - b) + number_outside outside b
    numbered = omega (arith, number-count outside 24, number-count outside b, count_more (has outside) b (24 - b), ap (count_below (has outside)) back)

    most : numbers < 2 ^ (24 - b) * 2 ^ number_outside outside b
    most = omega (
      arith,
      fits,
      pow-le-pow_right {n = 2} (omega arith) {i = number_outside outside 24} {j = (24 - b) + number_outside outside b} numbered,
      pow-add 2 (24 - b) (number_outside outside b),
    )

    few : x / 2 ^ b < 2 ^ (24 - b)
    few = elim (cases_lt (x / 2 ^ b) (2 ^ (24 - b))) [
      | inl l ↦ l
      | inr g ↦
          let e : x / 2 ^ b ≡ 2 ^ (24 - b) + (x / 2 ^ b - 2 ^ (24 - b)) = omega arith in
          absurd (omega (
            arith,
            most,
            s.split,
            ap (λ k. k * 2 ^ number_outside outside b) e,
            add-mul (2 ^ (24 - b)) (x / 2 ^ b - 2 ^ (24 - b)) (2 ^ number_outside outside b),
          ))
    ]

-- ---- the end

pub record IsSpread (outside numbers x : ℕ) : Type 0 where
  pub within : x < 2 ^ 24
  pub apart : (p : ℕ) → has x p ≡ true → has outside p ≡ false
  pub squeeze : squeeze_below outside x 24 ≡ numbers

pub spread-end : (outside numbers x : ℕ) → numbers < 2 ^ number_outside outside 24 → IsSpreading outside numbers 24 x → IsSpread outside numbers x
spread-end outside numbers x fits s = record {
  within = inside;
  apart = λ p h. s.apart p (point_lt x 24 p inside h) h;
  squeeze = let none : x / 2 ^ 24 ≡ 0 = omega (arith, inside) in omega (arith, s.split, ap (λ k. k * 2 ^ number_outside outside 24) none);
}
  where
    inside : x < 2 ^ 24
    inside = spreading-within outside numbers 24 x (omega arith) fits s

spreading : (outside numbers b : ℕ) → (x : ℕ) × IsSpreading outside numbers b x
spreading outside numbers zero = (numbers, spreading-start outside numbers)
spreading outside numbers (suc b) =
    let before = spreading outside numbers b in
    elim (cases_Bool (has outside b)) [
      | inl y ↦ (before.0 + before.0 / 2 ^ b * 2 ^ b, spreading-taken outside numbers b before.0 before.1 y)
      | inr free ↦ (before.0, spreading-free outside numbers b before.0 before.1 free)
    ]

pub spread_exists : (outside numbers : ℕ) → numbers < 2 ^ number_outside outside 24 → (set : ℕ) × IsSpread outside numbers set
spread_exists outside numbers fits =
    let end = spreading outside numbers 24 in
    (end.0, spread-end outside numbers end.0 fits end.1)

-- ---- the rank of what was spread

pub number-le : (outside m k : ℕ) → number_outside outside m ≤ number_outside outside (k + m)
number-le outside m zero = let e : 0 + m ≡ m = omega arith in rw e (omega arith)
number-le outside m (suc k) =
    let e : suc k + m ≡ suc (k + m) = omega arith in
    rw e (elim (cases_Bool (has outside (k + m))) [
      | inl y ↦ omega (arith, number-le outside m k, number-inside outside (k + m) y)
      | inr y ↦ omega (arith, number-le outside m k, number-outside outside (k + m) y)
    ])

total-le : (t : ℕ → ℕ) (m k : ℕ) → total t m ≤ total t (k + m)
total-le t m zero = let e : 0 + m ≡ m = omega arith in rw e (omega arith)
total-le t m (suc k) =
    let e : suc k + m ≡ suc (k + m) = omega arith in
    rw e (omega (arith, total-le t m k, total-suc t (k + m)))

module _ (n outside count rank numbers set : ℕ) (few : n ≤ 24) (ranked : IsRanked (number_outside outside n) 0 count rank numbers) (within : set < 2 ^ 24)
    (apart : (p : ℕ) → has set p ≡ true → has outside p ≡ false) (is : squeeze_below outside set 24 ≡ numbers) where
  all_below : (p : ℕ) → has set p ≡ true → p < n
  unfolding squeeze_below
  all_below p h = elim (cases_lt p n) [
    | inl l ↦ l
    | inr g ↦
        let l : p < 24 = point_lt set 24 p within h in
        let here : bit_of_number outside set p ≡ 2 ^ number_outside outside p = rw (h, apart p h) refl in
        let up : (p - n) + n ≡ p = omega (arith, g) in
        let rest : (24 - suc p) + suc p ≡ 24 = omega arith in
        let numbered : number_outside outside n ≤ number_outside outside p = omega (arith, number-le outside n (p - n), ap (number_outside outside) up) in
        absurd (omega (
          arith,
          ranked.within,
          is,
          here,
          total-suc (bit_of_number outside set) p,
          total-le (bit_of_number outside set) (suc p) (24 - suc p),
          ap (total (bit_of_number outside set)) rest,
          pow-le-pow_right {n = 2} (omega arith) {i = number_outside outside n} {j = number_outside outside p} numbered,
        ))
  ]

  pub spread-ranked : IsRanked n outside count rank set
  spread-ranked = record {
    within = lt_from_points set n all_below;
    apart = apart;
    counted =
        omega (
          arith,
          count_of-below set 24 within (omega arith),
          (squeeze-is outside set apart 24).counted,
          count_of-below (squeeze_below outside set 24) (number_outside outside 24) (squeeze-is outside set apart 24).within (omega (arith, number-count outside 24)),
          ap count_of is,
          ranked.counted,
        );
    ranked = sym (squeeze-rank outside set apart within) ∙ ap (λ x. rank_of (map (number_outside 0) (members x))) is ∙ ranked.ranked;
  }

-- the numbers that are listed at a rank are those of a set of free points
pub listed-fits : (n free count rank numbers set : ℕ) → n ≤ 24 → number_outside set n ≡ free → IsRanked free 0 count rank numbers
    → numbers < 2 ^ number_outside set 24
listed-fits n free count rank numbers set few is ranked =
    let whole : (24 - n) + n ≡ 24 = omega arith in
    omega (
      arith,
      ranked.within,
      pow-le-pow_right {n = 2} (omega arith) {i = free} {j = number_outside set 24}
          (omega (arith, is, number-le set n (24 - n), ap (number_outside set) whole)),
    )
