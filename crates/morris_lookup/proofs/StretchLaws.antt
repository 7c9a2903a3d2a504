-- Laws of chunks of masks: each set of one has its first set as a part, and is a part of its last
-- one. So what these two show holds of each.
use Rattle.std.proofs.Common.{◌≡◌, ℕ, ◌+◌, ◌-◌, ◌*◌, ◌/◌, ◌^◌, ◌<◌, ◌≤◌, true, false, ◌&&◌, eqb, sym, ap, ◌∙◌, inl, inr, ◌⊎◌, subst, arith, add-mul}
use Rattle.std.proofs.lemmas.Bool.{cases_Bool, cases_lt, and_from, both_ways}
use Rattle.std.proofs.lemmas.Nat.{and_le_r, pow-add}
use Rattle.std.proofs.lemmas.Nat.Bits.{bit_at_cat_low, bit_at_cat_high, bit_at_ones}
use Rattle.std.proofs.Math.Nat.{mul-le-mul_right, pow-le-pow_right}
use lib.Bits.{bit_and}
use Rattle.morris_board.specs.Boards.{Shape}
use Rattle.morris_board.specs.Sets.{has, count_of, is_subset}
use Rattle.morris_board.specs.Symmetries.{image_of, HasSymmetries}
use Rattle.morris_board.proofs.PointsLaws.{same_points, has-and, has-none, within_each, each_within}
use Rattle.morris_board.proofs.SetLaws.{lt_from_points, point_lt, count_of-part}
use Rattle.morris_board.proofs.ImageLaws.{image_within, image_of-lt, one_to_one}
use Rattle.morris_index.specs.Classes.{is_representative, representative_of}
use Rattle.morris_index.proofs.ClassLaws.{symmetry_first, test_count, test_other}

-- ---- where a chunk lies

pub whole : (n : ℕ) → 2 ^ (n - n / 3) * 2 ^ (n / 3) ≡ 2 ^ n
whole n = let e : (n - n / 3) + n / 3 ≡ n = omega arith in sym (pow-add 2 (n - n / 3) (n / 3)) ∙ ap (λ k. 2 ^ k) e

pub next_chunk : (n number : ℕ) → (number + 1) * 2 ^ (n / 3) ≡ number * 2 ^ (n / 3) + 2 ^ (n / 3)
next_chunk n number = omega (arith, add-mul number 1 (2 ^ (n / 3)))

pub chunk_within : (n number : ℕ) → number < 2 ^ (n - n / 3) → number * 2 ^ (n / 3) + 2 ^ (n / 3) ≤ 2 ^ n
chunk_within n number low =
    let le : (number + 1) * 2 ^ (n / 3) ≤ 2 ^ (n - n / 3) * 2 ^ (n / 3) = mul-le-mul_right (2 ^ (n / 3)) (omega arith) in
    omega (arith, le, next_chunk n number, whole n)

pub few_masks : (n : ℕ) → n ≤ 24 → 2 ^ n ≤ 2 ^ 24
few_masks n few = pow-le-pow_right {n = 2} (omega arith) {i = n} {j = 24} few

-- ---- parts of sets

-- a part of a set has no greater mask
pub part_le : (s t : ℕ) → ((p : ℕ) → has s p ≡ true → has t p ≡ true) → s ≤ t
part_le s t each =
    let same : s ≡ bit_and s t = same_points s (bit_and s t) (λ p. elim (cases_Bool (has s p)) [
      | inl here ↦ here ∙ sym (has-and s t p ∙ and_from _ _ here (each p here))
      | inr none ↦ none ∙ sym (has-and s t p ∙ ap (λ b. b && has t p) none)
    ]) in
    omega (arith, same, and_le_r s t)

wide : (n s : ℕ) → n ≤ 24 → s < 2 ^ n → s < 2 ^ 32
wide n s few small = lt_from_points s 32 (λ p here. omega (arith, point_lt s n p small here))

-- ---- the sets of a chunk

module _ (above k i : ℕ) (low : i < 2 ^ k) where
  has_low : (p : ℕ) → p < k → has (above * 2 ^ k + i) p ≡ has i p
  unfolding has
  has_low p here = ap (λ n. eqb n 1) (bit_at_cat_low above k i p here)

  has_high : (p : ℕ) → k ≤ p → has (above * 2 ^ k + i) p ≡ has above (p - k)
  unfolding has
  has_high p here = ap (λ n. eqb n 1) (bit_at_cat_high above k i p low here)

ones_has : (k p : ℕ) → p < k → has (2 ^ k - 1) p ≡ true
unfolding has
ones_has k p here = ap (λ n. eqb n 1) (bit_at_ones k p here)

module _ (above k i : ℕ) (low : i < 2 ^ k) where
  some : 0 < 2 ^ k
  some = omega (arith, low)

  -- the first set is a part
  pub first_within : is_subset (above * 2 ^ k) (above * 2 ^ k + i) ≡ true
  first_within =
      let e : above * 2 ^ k + 0 ≡ above * 2 ^ k = omega arith in
      subst (λ s. is_subset s (above * 2 ^ k + i) ≡ true) e
      (each_within (above * 2 ^ k + 0) (above * 2 ^ k + i) (λ p here. elim (cases_lt p k) [
        | inl under ↦ absurd (both_ways (has 0 p) (has-none p) (sym (has_low above k 0 some p under) ∙ here))
        | inr over ↦ has_high above k i low p over ∙ sym (has_high above k 0 some p over) ∙ here
      ]))

  -- it is a part of the last one
  pub within_last : is_subset (above * 2 ^ k + i) (above * 2 ^ k + (2 ^ k - 1)) ≡ true
  within_last =
      let top : 2 ^ k - 1 < 2 ^ k = omega (arith, some) in
      each_within (above * 2 ^ k + i) (above * 2 ^ k + (2 ^ k - 1)) (λ p here. elim (cases_lt p k) [
        | inl under ↦ has_low above k (2 ^ k - 1) top p under ∙ ones_has k p under
        | inr over ↦ has_high above k (2 ^ k - 1) top p over ∙ sym (has_high above k i low p over) ∙ here
      ])

-- ---- sets that lie between two

module _ (board : Shape) (few : board.points ≤ 24) (y : HasSymmetries board) (count first last set : ℕ)
    (first_small : first < 2 ^ board.points) (small : set < 2 ^ board.points)
    (above : is_subset first set ≡ true) (below : is_subset set last ≡ true) where
  from_first : (p : ℕ) → has first p ≡ true → has set p ≡ true
  from_first = within_each first set (wide board.points first few first_small) above

  to_last : (p : ℕ) → has set p ≡ true → has last p ≡ true
  to_last = within_each set last (wide board.points set few small) below

  pub passed_by_count : (count < count_of first) ⊎ (count_of last < count) → is_representative board count set ≡ false
  passed_by_count out = test_count board count set (λ e. elim out [
    | inl more ↦ absurd (omega (arith, e, more, count_of-part first set from_first))
    | inr fewer ↦ absurd (omega (arith, e, fewer, count_of-part set last to_last))
  ])

  pub passed_by_image : (s : ℕ) → s < board.symmetries → image_of (board.image s) last < first → is_representative board count set ≡ false
  unfolding representative_of
  passed_by_image s low less =
      let symmetry = y.symmetry s low in
      let lt : image_of (board.image s) set < 2 ^ board.points = image_of-lt board.points few (board.image s) _ (one_to_one board (board.image s) _ symmetry) set small in
      let le : image_of (board.image s) set ≤ image_of (board.image s) last =
      part_le (image_of (board.image s) set) (image_of (board.image s) last)
      (within_each (image_of (board.image s) set) (image_of (board.image s) last) (wide board.points _ few lt) (image_within (board.image s) set last below)) in
      let least = (symmetry_first board set y.some).least s low in
      test_other board count set (λ own. absurd (omega (arith, own, least, le, less, part_le first set from_first)))
