-- The points of a set as numbers among the points that another set leaves free: which numbers they
-- are, and in which order.
use Rattle.std.proofs.Common.{◌≡◌, ℕ, zero, suc, ◌+◌, ◌-◌, ◌^◌, ◌<◌, ◌≤◌, true, false, List, [], ◌∷◌, ◌++◌, map, length, refl, sym, ◌∙◌, ap, inl, inr, arith}
use Rattle.std.proofs.lemmas.Bool.{cases_Bool, cases_eq}
use Rattle.std.proofs.lemmas.List.{map-append, length-map}
use Rattle.morris_board.specs.Sets.{has, members, count_of}
use Rattle.morris_board.proofs.PointsLaws.{has-above}
use Rattle.morris_index.specs.Numbering.{number_outside}
use Rattle.morris_index.specs.Sums.{total}
use Rattle.morris_index.specs.Parts.{bit_of_number, squeeze_below}
use Rattle.morris_index.proofs.RankLaws.{passing, passing-yes, passing-no, members-passing, number-zero, number-outside, number-inside, number-count}
use Rattle.morris_index.proofs.Moving.{total-suc}
use Rattle.morris_index.proofs.Following.{passing-same}
use Rattle.morris_index.proofs.Squeezing.{squeeze-is, has-top, has-rest}
use Rattle.morris_index.proofs.Spreading.{number-le}

module _ (outside set : ℕ) (apart : (p : ℕ) → has set p ≡ true → has outside p ≡ false) where
  abbrev numbers : ℕ → ℕ
  numbers n = squeeze_below outside set n

  abbrev number : ℕ → ℕ
  number n = number_outside outside n

  within : (n : ℕ) → numbers n < 2 ^ number n
  within n = (squeeze-is outside set apart n).within

  without_point : (n : ℕ) → has set n ≡ false → numbers (suc n) ≡ numbers n
  unfolding squeeze_below
  without_point n none =
      let here : bit_of_number outside set n ≡ 0 = rw none refl in
      omega (arith, total-suc (bit_of_number outside set) n, here)

  with_point : (n : ℕ) → has set n ≡ true → numbers (suc n) ≡ numbers n + 2 ^ number n
  unfolding squeeze_below
  with_point n y =
      let here : bit_of_number outside set n ≡ 2 ^ number n = rw (y, apart n y) refl in
      omega (arith, total-suc (bit_of_number outside set) n, here)

  -- free points have numbers in their order
  number_lt : (v n : ℕ) → v < n → has outside v ≡ false → number v < number n
  number_lt v n low free =
      let e : (n - suc v) + suc v ≡ n = omega arith in
      omega (arith, number-outside outside v free, number-le outside (suc v) (n - suc v), ap number e)

  -- the number of a free point is one of the set's if the point is
  pub number_has : (n v : ℕ) → v < n → has outside v ≡ false → has (numbers n) (number v) ≡ has set v
  number_has zero v low free = absurd (omega arith)
  number_has (suc n) v low free = elim (cases_eq v n) [
    | inl e ↦ rw e (elim (cases_Bool (has set n)) [
      | inl y ↦ rw (with_point n y) (has-top (numbers n) (number n) (within n) ∙ sym y)
      | inr none ↦ rw (without_point n none) (has-above (numbers n) (number n) (number n) (within n) (omega arith) ∙ sym none)
    ])
    | inr d ↦
        let before : has (numbers n) (number v) ≡ has set v = number_has n v (omega arith) free in
        elim (cases_Bool (has set n)) [
          | inl y ↦ rw (with_point n y) (has-rest (numbers n) (number n) (within n) (number v) (number_lt v n (omega arith) free) ∙ before)
          | inr none ↦ rw (without_point n none) before
        ]
  ]

  -- the numbers are those of the points, in their order
  passing_numbers : (n : ℕ) → passing (has (numbers n)) (number n) ≡ map (number_outside outside) (passing (has set) n)
  passing_numbers zero = rw (number-zero outside) refl
  passing_numbers (suc n) = elim (cases_Bool (has set n)) [
    | inl y ↦
        rw (with_point n y, number-outside outside n (apart n y))
        (passing-yes (has (numbers n + 2 ^ number n)) (number n) (has-top (numbers n) (number n) (within n))
        ∙ ap (λ (t : List ℕ). t ++ number n ∷ []) (passing-same (has (numbers n + 2 ^ number n)) (has (numbers n)) (number n) (has-rest (numbers n) (number n) (within n)) ∙ passing_numbers n)
        ∙ sym (map-append (number_outside outside) (passing (has set) n) (n ∷ []))
        ∙ ap (map (number_outside outside)) (sym (passing-yes (has set) n y)))
    | inr none ↦
        rw (without_point n none)
        (same n none ∙ passing_numbers n ∙ ap (map (number_outside outside)) (sym (passing-no (has set) n none)))
  ]
    where
      same : (n : ℕ) → has set n ≡ false → passing (has (numbers n)) (number (suc n)) ≡ passing (has (numbers n)) (number n)
      same n none = elim (cases_Bool (has outside n)) [
        | inl y ↦ rw (number-inside outside n y) refl
        | inr free ↦ rw (number-outside outside n free) (passing-no (has (numbers n)) (number n) (has-above (numbers n) (number n) (number n) (within n) (omega arith)))
      ]

  pub numbers_members : (n : ℕ) → n ≤ 32 → set < 2 ^ n → members (numbers n) ≡ map (number_outside outside) (members set)
  numbers_members n low set_within =
      members-passing (numbers n) (number n) (within n) (omega (arith, number-count outside n))
      ∙ passing_numbers n
      ∙ ap (map (number_outside outside)) (sym (members-passing set n set_within low))

  pub numbers_count : (n : ℕ) → n ≤ 32 → set < 2 ^ n → count_of (numbers n) ≡ count_of set
  unfolding count_of
  numbers_count n low set_within = ap length (numbers_members n low set_within) ∙ length-map (members set) (number_outside outside)

-- points past the set add no numbers
pub numbers_end : (outside set n k : ℕ) → set < 2 ^ n → squeeze_below outside set (k + n) ≡ squeeze_below outside set n
unfolding squeeze_below
numbers_end outside set n zero within = let e : 0 + n ≡ n = omega arith in ap (squeeze_below outside set) e
numbers_end outside set n (suc k) within =
    let e : suc k + n ≡ suc (k + n) = omega arith in
    let none : has set (k + n) ≡ false = has-above set n (k + n) within (omega arith) in
    let here : bit_of_number outside set (k + n) ≡ 0 = rw none refl in
    omega (arith, ap (total (bit_of_number outside set)) e, total-suc (bit_of_number outside set) (k + n), here, numbers_end outside set n k within)
