-- Laws of classes: the symmetry and the representative of a set, and the numbers of the classes.
use Rattle.std.proofs.Common.{◌≡◌, ℕ, zero, suc, ◌+◌, ◌-◌, ◌^◌, ◌<◌, ◌≤◌, Bool, true, false, ◌&&◌, eqb, leb, ltb, get_or, refl, sym, ap, ◌∙◌, inl, inr, ◌⊎◌, subst, arith}
use Rattle.std.proofs.lemmas.Bool.{cases_Bool, cases_eq, cases_lt, eq-eqb, eqb-true, le-leb, leb-true, lt-ltb, ltb-true, and_parts, and_from, or_cases, or_right, both_ways, false_from_ne_true}
use Rattle.std.proofs.lemmas.List.Sums.{position_or_len_is}
use Rattle.std.proofs.lemmas.List.FromFn.{get_or-range_with_len, length-range_with_len}
use Rattle.std.specs.List.{range_with_len, list_all}
use Rattle.morris_board.specs.Boards.{Shape}
use Rattle.morris_board.specs.Sets.{has, count_of, with_point}
use Rattle.morris_board.proofs.PointsLaws.{same_test, has-none, has-with}
use Rattle.morris_board.specs.Symmetries.{image_of, inverse_of, HasSymmetries}
use Rattle.morris_board.specs.SymmetryLaws.{below}
use Rattle.morris_board.proofs.ImageLaws.{IsOneToOne, one_to_one, image_of-lt, count_of-image, image_of-then, image_of-unmoved}
use Rattle.morris_board.proofs.ImageTables.{image_of-same}
use Rattle.morris_index.specs.Numbering.{count_below}
use Rattle.morris_index.specs.Classes.{is_canonicalizing, symmetry_of, representative_of, is_representative, classes_below, class_of, AreCanonicalizing}
use Rattle.morris_index.proofs.RankLaws.{count-none, count-yes, count-no}

-- ---- a test over a range

pub all_range : (test : ℕ → Bool) (a n : ℕ) → ((k : ℕ) → k < a + n → test k ≡ true) → list_all test (range_with_len a n) ≡ true
all_range test a zero each = refl
all_range test a (suc n) each = and_from _ _ (each a (omega arith)) (all_range test (a + 1) n (λ k low. each k (omega arith)))

-- ---- the canonicalizing symmetry

-- symmetry s gives the image with the least mask, and no lesser symmetry does
pub record IsFirst (board : Shape) (count set s : ℕ) : Type 0 where
  pub within : s < count
  pub least : (t : ℕ) → t < count → image_of (board.image s) set ≤ image_of (board.image t) set
  pub first : (t : ℕ) → t < s → image_of (board.image s) set < image_of (board.image t) set

module _ (board : Shape) (set : ℕ) where
  abbrev at : ℕ → ℕ
  at s = image_of (board.image s) set

  pub first_one : IsFirst board 1 set 0
  first_one = record {
    within = omega arith;
    least = λ t low. let e : t ≡ 0 = omega arith in rw e (omega arith);
    first = λ t low. absurd (omega arith);
  }

  pub first_same : (count s : ℕ) → IsFirst board count set s → at s ≤ at count → IsFirst board (count + 1) set s
  first_same count s h le = record {
    within = omega (arith, h.within);
    least = λ t low. elim (cases_eq t count) [
      | inl e ↦ rw e le
      | inr d ↦ h.least t (omega arith)
    ];
    first = h.first;
  }

  pub first_new : (count s : ℕ) → IsFirst board count set s → at count < at s → IsFirst board (count + 1) set count
  first_new count s h less = record {
    within = omega arith;
    least = λ t low. elim (cases_eq t count) [
      | inl e ↦ rw e (omega arith)
      | inr d ↦ let l : at s ≤ at t = h.least t (omega arith) in omega arith
    ];
    first = λ t low. let l : at s ≤ at t = h.least t low in omega arith;
  }

  first_of_all : (count : ℕ) → (s : ℕ) × IsFirst board (suc count) set s
  first_of_all zero = (0, first_one)
  first_of_all (suc count) =
      let before = first_of_all count in
      let e : suc count + 1 ≡ suc (suc count) = omega arith in
      elim (cases_lt (at (suc count)) (at before.0)) [
        | inl less ↦ (suc count, subst (λ n. IsFirst board n set (suc count)) e (first_new (suc count) before.0 before.1 less))
        | inr le ↦ (before.0, subst (λ n. IsFirst board n set before.0) e (first_same (suc count) before.0 before.1 le))
      ]

  canonicalizing : (s : ℕ) → IsFirst board board.symmetries set s → is_canonicalizing board set s ≡ true
  unfolding is_canonicalizing
  canonicalizing s h = all_range (λ t. leb (at s) (at t)) 0 board.symmetries (λ t low. le-leb _ _ (h.least t (omega arith)))

  not_canonicalizing : (s t : ℕ) → s < board.symmetries → at s < at t → is_canonicalizing board set t ≡ false
  unfolding is_canonicalizing
  not_canonicalizing s t low less = false_from_ne_true _ (λ h. absurd (omega (arith, leb-true (at t) (at s) (below (λ k. leb (at t) (at k)) board.symmetries h s low))))

  -- it is the one that the definition says
  pub first_is : (s : ℕ) → IsFirst board board.symmetries set s → symmetry_of board set ≡ s
  unfolding symmetry_of
  first_is s h =
      position_or_len_is (is_canonicalizing board set) (range_with_len 0 board.symmetries) s 0 (omega (arith, h.within, length-range_with_len 0 board.symmetries))
      (λ k low.
      let low' : k < board.symmetries = omega (arith, h.within) in
      let e : get_or (range_with_len 0 board.symmetries) k 0 ≡ k = get_or-range_with_len 0 board.symmetries k 0 low' ∙ omega arith in
      ap (is_canonicalizing board set) e ∙ not_canonicalizing s k h.within (h.first k low))
      (λ low.
      let e : get_or (range_with_len 0 board.symmetries) s 0 ≡ s = get_or-range_with_len 0 board.symmetries s 0 h.within ∙ omega arith in
      ap (is_canonicalizing board set) e ∙ canonicalizing s h)

  pub symmetry_first : 0 < board.symmetries → IsFirst board board.symmetries set (symmetry_of board set)
  symmetry_first some =
      let e : suc (board.symmetries - 1) ≡ board.symmetries = omega arith in
      let found = first_of_all (board.symmetries - 1) in
      let is = subst (λ n. IsFirst board n set found.0) e found.1 in
      subst (IsFirst board board.symmetries set) (sym (first_is found.0 is)) is

  pub symmetry_leads : 0 < board.symmetries → is_canonicalizing board set (symmetry_of board set) ≡ true
  symmetry_leads some = canonicalizing (symmetry_of board set) (symmetry_first some)

-- ---- all canonicalizing symmetries

-- x has the symmetries below `count` that give the same image as s, and no other numbers
pub record AreSame (board : Shape) (count set s x : ℕ) : Type 0 where
  pub each : (t : ℕ) → has x t ≡ true → (t < count) × (image_of (board.image t) set ≡ image_of (board.image s) set)
  pub all : (t : ℕ) → t < count → image_of (board.image t) set ≡ image_of (board.image s) set → has x t ≡ true

pub more_is : (x p q : ℕ) → has (with_point x p) q ≡ true → (has x q ≡ true) ⊎ (q ≡ p)
more_is x p q h = elim (or_cases (has x q) (eqb q p) (sym (has-with x p q) ∙ h)) [
  | inl old ↦ inl old
  | inr new ↦ inr (eqb-true q p new)
]

pub more_old : (x p q : ℕ) → has x q ≡ true → has (with_point x p) q ≡ true
more_old x p q h = has-with x p q ∙ rw h refl

pub more_new : (x p q : ℕ) → q ≡ p → has (with_point x p) q ≡ true
more_new x p q e = has-with x p q ∙ or_right (has x q) (eqb q p) (eq-eqb q p e)

only_is : (p q : ℕ) → has (with_point 0 p) q ≡ true → q ≡ p
only_is p q h = elim (more_is 0 p q h) [
  | inl old ↦ absurd (both_ways (has 0 q) (has-none q) old)
  | inr e ↦ e
]

module _ (board : Shape) (set : ℕ) where
  pub same_one : AreSame board 1 set 0 (with_point 0 0)
  same_one = record {
    each = λ t h. let e = only_is 0 t h in (omega (arith, e), ap (at board set) e);
    all = λ t low h. more_new 0 0 t (omega arith);
  }

  -- a lesser image: its symmetry alone
  pub same_new : (count s : ℕ) → IsFirst board count set s → at board set count < at board set s → AreSame board (count + 1) set count (with_point 0 count)
  same_new count s first less = record {
    each = λ t h. let e = only_is count t h in (omega (arith, e), ap (at board set) e);
    all = λ t low h. elim (cases_eq t count) [
      | inl e ↦ more_new 0 count t e
      | inr d ↦ let l = first.least t (omega arith) in absurd (omega (arith, h, l, less))
    ];
  }

  -- the same image: one symmetry more
  pub same_more : (count s x : ℕ) → AreSame board count set s x → at board set count ≡ at board set s → AreSame board (count + 1) set s (with_point x count)
  same_more count s x h same = record {
    each = λ t y. elim (more_is x count t y) [
      | inl old ↦ let r = h.each t old in (omega (arith, r.0), r.1)
      | inr e ↦ (omega (arith, e), ap (at board set) e ∙ same)
    ];
    all = λ t low e. elim (cases_eq t count) [
      | inl new ↦ more_new x count t new
      | inr d ↦ more_old x count t (h.all t (omega arith) e)
    ];
  }

  -- a greater image: no symmetry more
  pub same_no : (count s x : ℕ) → AreSame board count set s x → at board set s < at board set count → AreSame board (count + 1) set s x
  same_no count s x h less = record {
    each = λ t y. let r = h.each t y in (omega (arith, r.0), r.1);
    all = λ t low e. elim (cases_eq t count) [
      | inl new ↦ absurd (omega (arith, less, e, ap (at board set) new))
      | inr d ↦ h.all t (omega arith) e
    ];
  }

  -- a symmetry that gives the least image gives the same image as the first that does
  leads_same : (s t : ℕ) → IsFirst board board.symmetries set s → t < board.symmetries → is_canonicalizing board set t ≡ true → at board set t ≡ at board set s
  unfolding is_canonicalizing
  leads_same s t first low h =
      omega (arith, first.least t low, leb-true (at board set t) (at board set s) (below (λ k. leb (at board set t) (at board set k)) board.symmetries h s first.within))

  same_leads : (s t : ℕ) → IsFirst board board.symmetries set s → at board set t ≡ at board set s → is_canonicalizing board set t ≡ true
  unfolding is_canonicalizing
  same_leads s t first e =
      all_range (λ u. leb (at board set t) (at board set u)) 0 board.symmetries (λ u low. le-leb _ _ (omega (arith, e, first.least u (omega arith))))

  pub canonicalizing_set : (s x : ℕ) → IsFirst board board.symmetries set s → AreSame board board.symmetries set s x → AreCanonicalizing board set x
  canonicalizing_set s x first h t =
      same_test (has x t) (ltb t board.symmetries && is_canonicalizing board set t)
      (λ y. let r = h.each t y in and_from _ _ (lt-ltb t board.symmetries r.0) (same_leads s t first r.1))
      (λ y.
      let parts = and_parts _ _ y in
      let low : t < board.symmetries = ltb-true _ _ parts.0 in
      h.all t low (leads_same s t first low parts.1))

  pub has_first : (x : ℕ) → 0 < board.symmetries → AreCanonicalizing board set x → has x (symmetry_of board set) ≡ true
  has_first x some set_classes =
      set_classes (symmetry_of board set)
      ∙ and_from _ _ (lt-ltb (symmetry_of board set) board.symmetries (symmetry_first board set some).within) (symmetry_leads board set some)

  -- the least of them is the one that the definition says
  pub least_canonicalizing : (x p : ℕ) → 0 < board.symmetries → AreCanonicalizing board set x → has x p ≡ true → ((k : ℕ) → k < p → has x k ≡ false) → p ≡ symmetry_of board set
  least_canonicalizing x p some set_classes here below =
      let first = symmetry_first board set some in
      let parts = and_parts (ltb p board.symmetries) (is_canonicalizing board set p) (sym (set_classes p) ∙ here) in
      let same = leads_same (symmetry_of board set) p first (ltb-true p board.symmetries parts.0) parts.1 in
      elim (cases_lt p (symmetry_of board set)) [
        | inl less ↦ absurd (omega (arith, same, first.first p less))
        | inr le ↦ elim (cases_eq p (symmetry_of board set)) [
          | inl e ↦ e
          | inr d ↦ absurd (both_ways (has x (symmetry_of board set)) (below (symmetry_of board set) (omega arith)) (has_first x some set_classes))
        ]
      ]

  -- so it gives the representative
  pub canonical_least : (t : ℕ) → t < board.symmetries → is_canonicalizing board set t ≡ true → image_of (board.image t) set ≡ representative_of board set
  unfolding representative_of
  canonical_least t low h = leads_same (symmetry_of board set) t (symmetry_first board set (omega arith)) low h

-- the least image so far, and all symmetries so far that give it
pub record IsLeastSoFar (board : Shape) (count set least x : ℕ) : Type 0 where
  pub symmetry : ℕ
  pub first : IsFirst board count set symmetry
  pub same : AreSame board count set symmetry x
  pub is : least ≡ image_of (board.image symmetry) set

-- ---- images of images

module _ (board : Shape) (few : board.points ≤ 24) (y : HasSymmetries board) where
  one : (s : ℕ) → s < board.symmetries → IsOneToOne board.points (board.image s) (board.image (inverse_of s))
  one s low = one_to_one board _ _ (y.symmetry s low)

  module _ (set : ℕ) (small : set < 2 ^ board.points) where
    pub image_none : image_of (board.image 0) set ≡ set
    image_none = image_of-same (board.image 0) (λ p. p) board.points set small y.identity ∙ image_of-unmoved board.points few set small

    pub image_within : (s : ℕ) → s < board.symmetries → image_of (board.image s) set < 2 ^ board.points
    image_within s low = image_of-lt board.points few _ _ (one s low) set small

    pub image_count : (s : ℕ) → s < board.symmetries → count_of (image_of (board.image s) set) ≡ count_of set
    image_count s low = count_of-image board.points few _ _ (one s low) set small

    -- the image of an image is an image
    pub image_twice : (s t : ℕ) → s < board.symmetries → t < board.symmetries
        → (u : ℕ) × (u < board.symmetries) × (image_of (board.image s) (image_of (board.image t) set) ≡ image_of (board.image u) set)
    image_twice s t s_low t_low =
        let u = y.closed s t s_low t_low in (
          u.0,
          u.1.within,
          image_of-then board.points few _ _ _ _ (one s s_low) (one t t_low) set small
              ∙ sym (image_of-same (board.image u.0) (λ p. board.image s (board.image t p)) board.points set small u.1.same),
        )

    pub symmetry_within : symmetry_of board set < board.symmetries
    symmetry_within = (symmetry_first board set y.some).within

    pub representative_within : representative_of board set < 2 ^ board.points
    unfolding representative_of
    representative_within = image_within (symmetry_of board set) symmetry_within

    pub representative_count : count_of (representative_of board set) ≡ count_of set
    unfolding representative_of
    representative_count = image_count (symmetry_of board set) symmetry_within

    pub representative_le : representative_of board set ≤ set
    unfolding representative_of
    representative_le = omega (arith, (symmetry_first board set y.some).least 0 y.some, image_none)

    -- no image of a representative is below it
    images_above : (s : ℕ) → s < board.symmetries → representative_of board set ≤ image_of (board.image s) (representative_of board set)
    unfolding representative_of
    images_above s low =
        let u = image_twice s (symmetry_of board set) low symmetry_within in
        let l = (symmetry_first board set y.some).least u.0 u.1 in
        omega (arith, u.2, l)

  -- the canonicalizing symmetry of a set with no lesser image is symmetry 0, which leaves it as it
  -- is
  pub own_symmetry : (set : ℕ) → set < 2 ^ board.points → ((s : ℕ) → s < board.symmetries → set ≤ image_of (board.image s) set) → symmetry_of board set ≡ 0
  own_symmetry set small above =
      first_is board set 0 (record {
        within = y.some;
        least = λ t low. omega (arith, above t low, image_none set small);
        first = λ t low. absurd (omega arith);
      })

  canonical_by_none : (r : ℕ) → r < 2 ^ board.points → symmetry_of board r ≡ 0 → representative_of board r ≡ r
  unfolding representative_of
  canonical_by_none r within e = ap (λ s. image_of (board.image s) r) e ∙ image_none r within

  module _ (set : ℕ) (small : set < 2 ^ board.points) where
    pub representative_symmetry : symmetry_of board (representative_of board set) ≡ 0
    representative_symmetry = own_symmetry (representative_of board set) (representative_within set small) (images_above set small)

    pub representative_twice : representative_of board (representative_of board set) ≡ representative_of board set
    representative_twice = canonical_by_none (representative_of board set) (representative_within set small) representative_symmetry

    pub class_of-representative : class_of board (representative_of board set) ≡ class_of board set
    unfolding class_of
    class_of-representative = rw (representative_twice, representative_count set small) refl

-- ---- the numbers of the classes

module _ (board : Shape) (count : ℕ) where
  abbrev test : ℕ → Bool
  test = is_representative board count

  pub test_parts : (set : ℕ) → is_representative board count set ≡ true → (representative_of board set ≡ set) × (count_of set ≡ count)
  unfolding is_representative
  test_parts set h = let parts = and_parts _ _ h in (eqb-true _ _ parts.0, eqb-true _ _ parts.1)

  pub test_from : (set : ℕ) → representative_of board set ≡ set → count_of set ≡ count → is_representative board count set ≡ true
  unfolding is_representative
  test_from set h k = and_from _ _ (eq-eqb _ _ h) (eq-eqb _ _ k)

  pub test_other : (set : ℕ) → (representative_of board set ≡ set → ⊥) → is_representative board count set ≡ false
  test_other set h = false_from_ne_true _ (λ e. h (test_parts set e).0)

  pub test_count : (set : ℕ) → (count_of set ≡ count → ⊥) → is_representative board count set ≡ false
  test_count set h = false_from_ne_true _ (λ e. h (test_parts set e).1)

  pub none_below : (mask : ℕ) → ((set : ℕ) → set < mask → is_representative board count set ≡ false) → classes_below board count mask ≡ 0
  unfolding classes_below
  none_below zero none = count-none test
  none_below (suc mask) none = count-no test mask (none mask (omega arith)) ∙ none_below mask (λ s low. none s (omega arith))

  -- none between two masks
  pub none_between : (low more : ℕ) → ((set : ℕ) → low ≤ set → set < low + more → is_representative board count set ≡ false)
      → classes_below board count (low + more) ≡ classes_below board count low
  unfolding classes_below
  none_between low zero none = let e : low + 0 ≡ low = omega arith in ap (count_below test) e
  none_between low (suc more) none =
      let e : low + suc more ≡ suc (low + more) = omega arith in
      ap (count_below test) e
      ∙ count-no test (low + more) (none (low + more) (omega arith) (omega arith))
      ∙ none_between low more (λ s l h. none s l (omega arith))

  pub one_more : (set : ℕ) → is_representative board count set ≡ true → classes_below board count (suc set) ≡ suc (classes_below board count set)
  unfolding classes_below
  one_more set h = count-yes test set h

  pub no_more : (set : ℕ) → is_representative board count set ≡ false → classes_below board count (suc set) ≡ classes_below board count set
  unfolding classes_below
  no_more set h = count-no test set h

  pub classes-le : (low more : ℕ) → classes_below board count low ≤ classes_below board count (low + more)
  unfolding classes_below
  classes-le low zero = let e : low + 0 ≡ low = omega arith in omega (arith, ap (count_below test) e)
  classes-le low (suc more) =
      let e : low + suc more ≡ suc (low + more) = omega arith in
      elim (cases_Bool (test (low + more))) [
        | inl y ↦ omega (arith, classes-le low more, ap (count_below test) e, count-yes test (low + more) y)
        | inr n ↦ omega (arith, classes-le low more, ap (count_below test) e, count-no test (low + more) n)
      ]

  -- a representative has a number below that of any greater mask
  pub class_lt : (set mask : ℕ) → is_representative board count set ≡ true → set < mask → classes_below board count set < classes_below board count mask
  class_lt set mask h less =
      let e : suc set + (mask - suc set) ≡ mask = omega arith in
      omega (arith, one_more set h, classes-le (suc set) (mask - suc set), ap (classes_below board count) e)

  -- no two representatives have the same number
  pub class_alone : (s t : ℕ) → is_representative board count s ≡ true → is_representative board count t ≡ true
      → classes_below board count s ≡ classes_below board count t → s ≡ t
  class_alone s t hs ht e = elim (cases_lt s t) [
    | inl l ↦ absurd (omega (arith, class_lt s t hs l))
    | inr g ↦ elim (cases_eq s t) [
      | inl same ↦ same
      | inr d ↦ absurd (omega (arith, class_lt t s ht (omega arith)))
    ]
  ]
