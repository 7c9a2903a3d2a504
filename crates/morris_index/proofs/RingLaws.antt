-- Squeezed sets grow by a ring of eight points at a time.
use Rattle.std.proofs.Common.{◌≡◌, ℕ, zero, suc, ◌+◌, ◌*◌, ◌/◌, ◌%◌, ◌^◌, ◌<◌, ◌≤◌, true, false, not, ◌&&◌, refl, sym, ◌∙◌, ap, ap₂, inl, inr, arith, lit<, pow-suc}
use Rattle.std.proofs.lemmas.Bool.{cases_Bool}
use Rattle.std.proofs.Math.Nat.{mod-eq_of_lt, pow-le-pow_right}
use Rattle.morris_board.specs.Sets.{has}
use Rattle.morris_index.specs.Numbering.{number_outside}
use Rattle.morris_index.specs.Parts.{bit_of_number, squeeze_below}
use Rattle.morris_index.proofs.RankLaws.{number-zero, number-outside, number-inside, number-count}
use Rattle.morris_index.proofs.Moving.{total, total-zero, total-suc}
use Rattle.morris_index.proofs.Squeezing.{has-part, squeeze-part, mask-none}

-- the numbers are those of free points, also where the sets have points in common
pub squeezed_lt : (outside set n : ℕ) → squeeze_below outside set n < 2 ^ number_outside outside n
unfolding squeeze_below
squeezed_lt outside set zero = rw (total-zero (bit_of_number outside set), number-zero outside) (lit< tt)
squeezed_lt outside set (suc n) =
    let before = squeezed_lt outside set n in
    let unmove = total-suc (bit_of_number outside set) n in
    elim (cases_Bool (has outside n)) [
      | inl y ↦
          let none : bit_of_number outside set n ≡ 0 = elim (cases_Bool (has set n)) [ inl h ↦ rw (h, y) refl | inr h ↦ rw h refl ] in
          rw (number-inside outside n y) (omega (arith, before, unmove, none))
      | inr free ↦ rw (number-outside outside n free) (elim (cases_Bool (has set n)) [
        | inl h ↦
            let one : bit_of_number outside set n ≡ 2 ^ number_outside outside n = rw (h, free) refl in
            omega (arith, before, unmove, one, pow-suc 2 (number_outside outside n))
        | inr h ↦
            let none : bit_of_number outside set n ≡ 0 = rw h refl in
            omega (arith, before, unmove, none, pow-suc 2 (number_outside outside n))
      ])
    ]

-- ---- a ring, point by point

module _ (outside set p : ℕ) where
  next : squeeze_below outside set (p + 1) ≡ squeeze_below outside set p + bit_of_number outside set p
  unfolding squeeze_below
  next = let e : p + 1 ≡ suc p = omega arith in ap (total (bit_of_number outside set)) e ∙ total-suc (bit_of_number outside set) p

  pub squeeze-with : (n squeeze : ℕ) → p < 8 → squeeze ≡ squeeze_below outside set p → (has set p && not (has outside p)) ≡ true → n ≡ number_outside outside p
      → squeeze + 1 * 2 ^ n % 256 ≡ squeeze_below outside set (p + 1)
  squeeze-with n squeeze low before here is =
      let one : bit_of_number outside set p ≡ 2 ^ n = rw here (ap (λ k. 2 ^ k) (sym is)) in
      let small = pow-le-pow_right {n = 2} (omega arith) {i = n} {j = 7} (omega (arith, is, number-count outside p)) in
      let table : 1 * 2 ^ n % 256 ≡ 1 * 2 ^ n = mod-eq_of_lt (omega (arith, small)) in
      omega (arith, next, before, one, table)

  pub squeeze-without : (squeeze : ℕ) → squeeze ≡ squeeze_below outside set p → (has set p && not (has outside p)) ≡ false → squeeze ≡ squeeze_below outside set (p + 1)
  squeeze-without squeeze before none =
      let nothing : bit_of_number outside set p ≡ 0 = rw none refl in
      omega (arith, next, before, nothing)

pub squeezed_fits : (outside set p : ℕ) → p ≤ 8 → squeeze_below outside set p < 256
squeezed_fits outside set p low =
    omega (
      arith,
      squeezed_lt outside set p,
      pow-le-pow_right {n = 2} (omega arith) {i = number_outside outside p} {j = 8} (omega (arith, number-count outside p)),
    )

-- ---- the three rings of a board

module _ (outside set : ℕ) where
  abbrev ring_of : ℕ → ℕ → ℕ
  ring_of x start = x / 2 ^ start % 256

  pub squeeze-further : (start : ℕ) → squeeze_below outside set (start + 8)
      ≡ squeeze_below outside set start + squeeze_below (ring_of outside start) (ring_of set start) 8 * 2 ^ number_outside outside start
  squeeze-further start =
      squeeze-part outside (ring_of outside start) start 8 (has-part outside start 8) set (ring_of set start) (has-part set start 8) 8 (omega arith)

  pub squeeze-rings : set < 2 ^ 24 → squeeze_below outside set 24
      ≡ squeeze_below (outside % 256) (set % 256) 8
      + squeeze_below (outside / 256 % 256) (set / 256 % 256) 8 * 2 ^ number_outside outside 8
      + squeeze_below (outside / 65536 % 256) (set / 65536) 8 * 2 ^ number_outside outside 16
  squeeze-rings within =
      let o_first : ring_of outside 0 ≡ outside % 256 = omega arith in
      let s_first : ring_of set 0 ≡ set % 256 = omega arith in
      let s_last : ring_of set 16 ≡ set / 65536 = mod-eq_of_lt (omega arith) in
      let first : squeeze_below outside set 8 ≡ squeeze_below (outside % 256) (set % 256) 8 =
      omega (
        arith,
        squeeze-further 0,
        mask-none outside set,
        ap (λ k. squeeze_below (ring_of outside 0) (ring_of set 0) 8 * 2 ^ k) (number-zero outside),
        ap₂ (λ o s. squeeze_below o s 8) o_first s_first,
      ) in
      let last : squeeze_below (ring_of outside 16) (ring_of set 16) 8 * 2 ^ number_outside outside 16
      ≡ squeeze_below (outside / 65536 % 256) (set / 65536) 8 * 2 ^ number_outside outside 16 =
      ap (λ s. squeeze_below (ring_of outside 16) s 8 * 2 ^ number_outside outside 16) s_last in
      omega (arith, squeeze-further 16, squeeze-further 8, first, last)

  -- what the rings add up to fits a mask, however far they are summed
  pub rings_fit : set < 2 ^ 24 → squeeze_below outside set 24 < 2 ^ 24
  rings_fit within =
      omega (
        arith,
        squeezed_lt outside set 24,
        pow-le-pow_right {n = 2} (omega arith) {i = number_outside outside 24} {j = 24} (omega (arith, number-count outside 24)),
      )

-- what the code adds up
module _ (outside set first second third n m : ℕ) (within : set < 2 ^ 24) (first_is : first ≡ squeeze_below (outside % 256) (set % 256) 8)
    (second_is : second ≡ squeeze_below (outside / 256 % 256) (set / 256 % 256) 8) (third_is : third ≡ squeeze_below (outside / 65536 % 256) (set / 65536) 8)
    (n_is : n ≡ number_outside outside 8) (m_is : m ≡ number_outside outside 16) where
  second_part : second * 2 ^ n ≡ squeeze_below (outside / 256 % 256) (set / 256 % 256) 8 * 2 ^ number_outside outside 8
  second_part = ap₂ (λ a k. a * 2 ^ k) second_is n_is

  third_part : third * 2 ^ m ≡ squeeze_below (outside / 65536 % 256) (set / 65536) 8 * 2 ^ number_outside outside 16
  third_part = ap₂ (λ a k. a * 2 ^ k) third_is m_is

  second_kept : second * 2 ^ n % 4294967296 ≡ second * 2 ^ n
  second_kept = mod-eq_of_lt (omega (arith, squeeze-rings outside set within, rings_fit outside set within, second_part))

  third_kept : third * 2 ^ m % 4294967296 ≡ third * 2 ^ m
  third_kept = mod-eq_of_lt (omega (arith, squeeze-rings outside set within, rings_fit outside set within, third_part))

  pub rings_sum : first + second * 2 ^ n % 4294967296 + third * 2 ^ m % 4294967296 ≡ squeeze_below outside set 24
  rings_sum = omega (arith, squeeze-rings outside set within, first_is, second_part, third_part, second_kept, third_kept)

  pub rings_low : first + second * 2 ^ n % 4294967296 + third * 2 ^ m % 4294967296 < 2 ^ 24
  rings_low = omega (arith, rings_sum, rings_fit outside set within)
