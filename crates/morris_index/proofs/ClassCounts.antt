-- There are no more classes of sets of a number of points than there are such sets.
use Rattle.std.proofs.Common.{◌≡◌, ℕ, zero, suc, ◌+◌, ◌^◌, ◌<◌, ◌≤◌, true, false, sym, ap, subst, ◌∙◌, inl, inr, arith}
use Rattle.std.proofs.lemmas.Bool.{cases_Bool, cases_eq}
use Rattle.morris_board.specs.Boards.{Shape}
use Rattle.morris_board.specs.Sets.{count_of}
use Rattle.morris_board.specs.Symmetries.{HasSymmetries}
use Rattle.morris_index.specs.Binomials.{choose}
use Rattle.morris_index.specs.Numbering.{IsRanked}
use Rattle.morris_index.specs.Classes.{is_representative, classes_below, class_count}
use Rattle.morris_index.proofs.ClassLaws.{test_parts, test_count, none_below, one_more, no_more}
use Rattle.morris_index.proofs.KeepLaws.{ranked, ranks_less, masks_less, rank_lt, beyond}
use Rattle.morris_index.proofs.OrderLaws.{rank_at, rank_less}

module _ (board : Shape) (n count : ℕ) (low : n ≤ 24) where
  -- so many classes are below a mask as there are sets below it, or fewer
  record AreFew (mask : ℕ) : Type 0 where
    pub all : classes_below board count mask ≤ choose n count
    pub before : (set : ℕ) → mask ≤ set → set < 2 ^ n → count_of set ≡ count → classes_below board count mask ≤ rank_at set

  few_below : (mask : ℕ) → mask ≤ 2 ^ n → AreFew mask
  few_below zero within =
      let none = none_below board count 0 (λ set less. absurd (omega arith)) in
      record { all = omega (arith, none); before = λ set above inside counted. omega (arith, none) }
  few_below (suc mask) within =
      let less = few_below mask (omega arith) in
      elim (cases_Bool (is_representative board count mask)) [
        | inl counts ↦
            let counted = (test_parts board count mask counts).1 in
            let more = one_more board count mask counts in
            let here = less.before mask (omega arith) (omega arith) counted in
            record {
              all = omega (arith, more, here, rank_lt n count low mask (omega arith) counted);
              before = λ set above inside set_counted.
                  omega (arith, more, here, rank_less n (omega arith) mask set (omega arith) inside (counted ∙ sym set_counted) (omega arith));
            }
        | inr other ↦
            let same = no_more board count mask other in
            record {
              all = omega (arith, same, less.all);
              before = λ set above inside counted. omega (arith, same, less.before set (omega arith) inside counted);
            }
      ]

pub class_count-few : (board : Shape) (n count : ℕ) → n ≤ 24 → board.points ≡ n → class_count board count ≤ choose n count
unfolding class_count
class_count-few board n count low points =
    subst (λ k. classes_below board count (2 ^ k) ≤ choose n count) (sym points) (few_below board n count low (2 ^ n) (omega arith)).all

-- ---- one set more, in the order of ranks

-- so many representatives are among the sets whose rank is below `to`
pub record IsCounted (board : Shape) (n count to classes : ℕ) : Type 0 where
  pub whole : (mask : ℕ) → mask ≤ 2 ^ n
      → ((r s : ℕ) → IsRanked n 0 count r s → s < mask → r < to)
      → ((r s : ℕ) → IsRanked n 0 count r s → r < to → s < mask)
      → classes_below board count mask ≡ classes
  pub few : classes ≤ to

module _ (board : Shape) (n count : ℕ) (low : n ≤ 24) (points : board.points ≡ n) (y : HasSymmetries board) where
  pub counted-none : IsCounted board n count 0 0
  counted-none = record {
    whole = λ mask le f g. none_below board count mask (λ s less. elim (cases_eq (count_of s) count) [
      | inl e ↦ absurd (omega (arith, f (rank_at s) s (ranked n count s (omega arith) e) less))
      | inr d ↦ test_count board count s d
    ]);
    few = omega arith;
  }

  module _ (rank set classes : ℕ) (here : IsRanked n 0 count rank set) (before : IsCounted board n count rank classes) where
    below_is : classes_below board count set ≡ classes
    below_is =
        before.whole set (omega (arith, here.within)) (λ r s h less. ranks_less n count low r rank s set h here less)
        (λ r s h less. masks_less n count low r rank s set h here less)

    pub counted-one : is_representative board count set ≡ true → IsCounted board n count (rank + 1) (classes + 1)
    counted-one own = record {
      whole = λ mask le f g.
          omega (arith, beyond board n count low points y rank set here mask le f g, one_more board count set own, below_is);
      few = omega (arith, before.few);
    }

    pub counted-other : is_representative board count set ≡ false → IsCounted board n count (rank + 1) classes
    counted-other fails = record {
      whole = λ mask le f g. beyond board n count low points y rank set here mask le f g ∙ no_more board count set fails ∙ below_is;
      few = omega (arith, before.few);
    }

  pub counted-all : (classes : ℕ) → IsCounted board n count (choose n count) classes → class_count board count ≡ classes
  unfolding class_count
  counted-all classes all =
      ap (λ k. classes_below board count (2 ^ k)) points
      ∙ all.whole (2 ^ n) (omega arith) (λ r s h less. omega (arith, h.ranked, rank_lt n count low s h.within h.counted)) (λ r s h less. h.within)
