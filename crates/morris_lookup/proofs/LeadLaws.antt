-- Laws of class words: the classes of listed representatives, and the images of one of them.
use Rattle.std.proofs.Common.{◌≡◌, ◌≢◌, ℕ, zero, suc, ◌+◌, ◌*◌, ◌/◌, ◌%◌, ◌^◌, ◌<◌, ◌≤◌, Bool, true, List, [], ◌∷◌, ◌++◌, length, get_or, set, get_or-set_other, get_or-set_same, length-append, refl, sym, ap, ◌∙◌, inl, inr, subst, arith}
use Rattle.std.proofs.lemmas.Bool.{cases_Bool, cases_eq, cases_lt}
use Rattle.std.proofs.lemmas.List.{get_or_append_left, get_or_push}
use Rattle.morris_board.specs.Boards.{Shape}
use Rattle.morris_board.specs.Sets.{members, count_of}
use Rattle.morris_board.specs.Symmetries.{image_of, inverse_of, HasSymmetries}
use Rattle.morris_board.proofs.PointsLaws.{has-none}
use Rattle.morris_board.proofs.ImageLaws.{IsOneToOne, IsOneToOne-back, one_to_one, image_of-undone}
use Rattle.morris_index.specs.Binomials.{choose}
use Rattle.morris_index.specs.Numbering.{count_below, rank_of}
use Rattle.morris_index.specs.Classes.{is_representative, symmetry_of, representative_of, classes_below, class_of, class_count}
use Rattle.morris_index.proofs.RankLaws.{passing, passing-yes, passing-no}
use Rattle.morris_index.proofs.OrderLaws.{rank_at}
use Rattle.morris_index.proofs.IndexLaws.{map_number-none, rank_outside-same}
use Rattle.morris_index.proofs.KeepLaws.{rank_lt}
use Rattle.morris_index.proofs.ClassLaws.{symmetry_first, image_within, image_count, image_twice, symmetry_within, representative_within, representative_count, representative_twice, test_parts, test_from, class_lt, class_alone}
use Rattle.morris_lookup.specs.Representatives.{representatives_of}
use Rattle.morris_lookup.specs.Prepared.{class_word_of, HaveClassWords, HaveClassWord, OthersStay, StayBefore}

-- ---- the numbers that pass a test, each at how many are below it

module _ (f : ℕ → Bool) where
  abbrev StandsAt : ℕ → ℕ → ℕ → Type 0
  StandsAt n k m = (f m ≡ true) × (m < n) × (count_below f m ≡ k)

  pub passing-at : (n k : ℕ) → k < length (passing f n) → StandsAt n k (get_or (passing f n) k 0)
  unfolding count_below
  passing-at zero k h = absurd (omega arith)
  passing-at (suc n) k h = elim (cases_Bool (f n)) [
    | inl y ↦
        let e : passing f (suc n) ≡ passing f n ++ n ∷ [] = passing-yes f n y in
        subst (λ xs. StandsAt (suc n) k (get_or xs k 0)) (sym e) (elim (cases_lt k (length (passing f n))) [
          | inl low ↦
              let before = passing-at n k low in
              subst (StandsAt (suc n) k) (sym (get_or_append_left (passing f n) (n ∷ []) 0 k low)) (before.0, omega (arith, before.1), before.2)
          | inr le ↦
              let here : length (passing f n) ≡ k = omega (arith, ap length e, length-append (passing f n) (n ∷ [])) in
              subst (StandsAt (suc n) k) (sym (get_or_push (passing f n) n 0 k here)) (y, omega arith, here)
        ])
    | inr out ↦
        let e : passing f (suc n) ≡ passing f n = passing-no f n out in
        let before = passing-at n k (omega (arith, ap length e)) in
        subst (λ xs. StandsAt (suc n) k (get_or xs k 0)) (sym e) (before.0, omega (arith, before.1), before.2)
  ]

-- ---- the class of a listed representative

module _ (board : Shape) (few : board.points ≤ 24) (y : HasSymmetries board) (count : ℕ) where
  pub record IsListed (class r : ℕ) : Type 0 where
    pub own : representative_of board r ≡ r
    pub counted : count_of r ≡ count
    pub within : r < 2 ^ board.points
    pub number : classes_below board count r ≡ class

  pub listed_at : (class : ℕ) → class < length (representatives_of board count) → IsListed class (get_or (representatives_of board count) class 0)
  unfolding representatives_of classes_below
  listed_at class h =
      let at = passing-at (is_representative board count) (2 ^ board.points) class h in
      let parts = test_parts board count _ at.0 in
      record { own = parts.0; counted = parts.1; within = at.1; number = at.2 }

  module _ (set : ℕ) (small : set < 2 ^ board.points) (counted : count_of set ≡ count) where
    is_one : is_representative board count (representative_of board set) ≡ true
    is_one = test_from board count _ (representative_twice board few y set small) (representative_count board few y set small ∙ counted)

    class_is : class_of board set ≡ classes_below board count (representative_of board set)
    unfolding class_of
    class_is = ap (λ k. classes_below board k (representative_of board set)) counted

    -- a set of its class has that representative
    pub same_class : (class r : ℕ) → IsListed class r → class_of board set ≡ class → representative_of board set ≡ r
    same_class class r listed is =
        class_alone board count _ r is_one (test_from board count r listed.own listed.counted) (sym class_is ∙ is ∙ sym listed.number)

    -- one of another class doesn't
    pub other_class : (class r : ℕ) → IsListed class r → class_of board set ≢ class → representative_of board set ≢ r
    other_class class r listed differ = λ e. differ (class_is ∙ ap (classes_below board count) e ∙ listed.number)

    pub class_inside : class_of board set < length (representatives_of board count)
    unfolding class_count classes_below count_below representatives_of
    class_inside =
        let less : classes_below board count (representative_of board set) < classes_below board count (2 ^ board.points) =
        class_lt board count _ _ is_one (representative_within board few y set small) in
        omega (arith, class_is, less)

-- ---- the images of a representative

module _ (board : Shape) (few : board.points ≤ 24) (y : HasSymmetries board) where
  one : (s : ℕ) → s < board.symmetries → IsOneToOne board.points (board.image s) (board.image (inverse_of s))
  one s low = one_to_one board _ _ (y.symmetry s low)

  -- a set whose image under s is r is the image of r under the inverse of s
  pub came_from : (s set r : ℕ) → s < board.symmetries → set < 2 ^ board.points → image_of (board.image s) set ≡ r → set ≡ image_of (board.image (inverse_of s)) r
  came_from s set r low small e =
      sym (image_of-undone board.points few _ _ (one s low) set small) ∙ ap (image_of (board.image (inverse_of s))) e

  module _ (r : ℕ) (small : r < 2 ^ board.points) where
    pub there : (s : ℕ) → s < board.symmetries → image_of (board.image s) (image_of (board.image (inverse_of s)) r) ≡ r
    there s low = image_of-undone board.points few _ _ (IsOneToOne-back board.points _ _ (one s low)) r small

    -- all images of a representative have it
    pub image_own : representative_of board r ≡ r → (s : ℕ) → s < board.symmetries → representative_of board (image_of (board.image s) r) ≡ r
    unfolding representative_of
    image_own own s low =
        let at : ℕ = image_of (board.image s) r in
        let within : at < 2 ^ board.points = image_within board few y r small s low in
        let t : ℕ = symmetry_of board at in
        let up = image_twice board few y r small t s (symmetry_within board few y at within) low in
        let above : image_of (board.image (symmetry_of board r)) r ≤ image_of (board.image up.0) r = (symmetry_first board r y.some).least up.0 up.1 in
        let back : image_of (board.image (inverse_of s)) at ≡ r = image_of-undone board.points few _ _ (one s low) r small in
        let below : image_of (board.image t) at ≤ image_of (board.image (inverse_of s)) at = (symmetry_first board at y.some).least (inverse_of s) (y.inverse_within s low) in
        omega (arith, above, below, back, up.2, own)

-- ---- ranks

pub rank_is : (set : ℕ) → rank_of (members set) ≡ rank_at set
rank_is set = ap rank_of (sym (map_number-none (members set)))

pub rank_inside : (n count set : ℕ) → n ≤ 24 → set < 2 ^ n → count_of set ≡ count → rank_of (members set) < choose n count
rank_inside n count set low small counted = omega (arith, rank_is set, rank_lt n count low set small counted)

pub rank_alone : (n s t : ℕ) → n ≤ 24 → s < 2 ^ n → t < 2 ^ n → count_of s ≡ count_of t → rank_of (members s) ≡ rank_of (members t) → s ≡ t
rank_alone n s t low s_in t_in counts e =
    rank_outside-same n 0 (omega arith) s t s_in t_in (λ p h. has-none p) (λ p h. has-none p) counts (sym (rank_is s) ∙ e ∙ rank_is t)

-- ---- the words of the images are written, symmetry by symmetry from the last one down

-- The word of each set that one of the last k symmetries brings to r has the least of these; all
-- else is as it was.
pub record AreCanonicalBy (board : Shape) (count start class r k : ℕ) (words old : List ℕ) : Type 0 where
  pub canonical_form : (set s : ℕ) → set < 2 ^ board.points → s < board.symmetries → board.symmetries ≤ s + k → image_of (board.image s) set ≡ r
      → ((t : ℕ) → t < s → board.symmetries ≤ t + k → image_of (board.image t) set ≡ r → ⊥)
      → get_or words (start + rank_of (members set)) 0 ≡ 16 * class + s
  pub others : OthersStay board count start r words old
  pub before : StayBefore start words old

pub canonical_none : (board : Shape) (count start class r : ℕ) (words : List ℕ) → AreCanonicalBy board count start class r 0 words words
canonical_none board count start class r words = record {
  canonical_form = λ set s small low late is none. absurd (omega arith);
  others = λ set small counted differ. refl;
  before = λ i low. refl;
}

module _ (board : Shape) (few : board.points ≤ 24) (y : HasSymmetries board) (count start class r : ℕ)
    (small : r < 2 ^ board.points) (counted : count_of r ≡ count) (own : representative_of board r ≡ r) where
  module _ (k s : ℕ) (last : s + (k + 1) ≡ board.symmetries) (words old : List ℕ) (here : AreCanonicalBy board count start class r k words old)
      (room : start + choose board.points count ≤ length words) where
    abbrev at : ℕ
    at = image_of (board.image (inverse_of s)) r

    low : s < board.symmetries
    low = omega (arith, last)

    at_in : at < 2 ^ board.points
    at_in = image_within board few y r small (inverse_of s) (y.inverse_within s low)

    at_counted : count_of at ≡ count
    at_counted = image_count board few y r small (inverse_of s) (y.inverse_within s low) ∙ counted

    differ_in_rank : (set : ℕ) → set < 2 ^ board.points → count_of set ≡ count → set ≢ at → start + rank_of (members set) ≢ start + rank_of (members at)
    differ_in_rank set set_in set_counted differ = λ e.
        differ (rank_alone board.points set at few set_in at_in (set_counted ∙ sym at_counted) (omega (arith, e)))

    pub canonical_more : (value : ℕ) → value ≡ 16 * class + s → AreCanonicalBy board count start class r (k + 1) (set words (start + rank_of (members at)) value) old
    canonical_more value value_is = record {
      canonical_form = λ x t x_in t_low late is none. elim (cases_eq t s) [
        | inl e ↦
            let same : x ≡ at = came_from board few y s x r low x_in (ap (λ u. image_of (board.image u) x) (sym e) ∙ is) in
            ap (λ m. get_or (set words (start + rank_of (members at)) value) (start + rank_of (members m)) 0) same
            ∙ get_or-set_same words (start + rank_of (members at)) value 0 (omega (arith, room, rank_inside board.points count at few at_in at_counted))
            ∙ omega (arith, value_is, e)
        | inr d ↦
            let x_counted : count_of x ≡ count = sym (image_count board few y x x_in t t_low) ∙ ap count_of is ∙ counted in
            let differ : x ≢ at = λ e. none s (omega (arith, last, late, d)) (omega (arith, last)) (ap (image_of (board.image s)) e ∙ there board few y r small s low) in
            get_or-set_other words (start + rank_of (members at)) (start + rank_of (members x)) value 0 (differ_in_rank x x_in x_counted differ)
            ∙ here.canonical_form x t x_in t_low (omega (arith, last, late, d)) is (λ u less far. none u less (omega (arith, far)))
      ];
      others = λ x x_in x_counted other.
          let differ : x ≢ at = λ e. other (ap (representative_of board) e ∙ image_own board few y r small own (inverse_of s) (y.inverse_within s low)) in
          get_or-set_other words (start + rank_of (members at)) (start + rank_of (members x)) value 0 (differ_in_rank x x_in x_counted differ)
          ∙ here.others x x_in x_counted other;
      before = λ i less.
          get_or-set_other words (start + rank_of (members at)) i value 0 (omega (arith, less)) ∙ here.before i less;
    }

  -- after all symmetries the word of each image has the least one that brings it to r
  pub canonical_all : (words old : List ℕ) → AreCanonicalBy board count start class r board.symmetries words old → HaveClassWord board start class r words
  unfolding representative_of
  canonical_all words old here = λ set set_in is.
      let first = symmetry_first board set y.some in
      here.canonical_form set (symmetry_of board set) set_in first.within (omega arith) is
      (λ t less late e. omega (arith, first.first t less, e, is))

-- ---- the words of the sets are written, class by class

pub record AreSetsCanonical (board : Shape) (count start class : ℕ) (words old : List ℕ) : Type 0 where
  pub canonical_form : (set : ℕ) → set < 2 ^ board.points → count_of set ≡ count → class_of board set < class
      → get_or words (start + rank_of (members set)) 0 ≡ class_word_of board set
  pub before : StayBefore start words old

pub sets_none : (board : Shape) (count start : ℕ) (words : List ℕ) → AreSetsCanonical board count start 0 words words
sets_none board count start words = record { canonical_form = λ set small counted low. absurd (omega arith); before = λ i low. refl }

module _ (board : Shape) (few : board.points ≤ 24) (y : HasSymmetries board) (count start : ℕ) where
  pub sets_more : (class r : ℕ) (words next old : List ℕ) → IsListed board few y count class r → AreSetsCanonical board count start class words old
      → HaveClassWord board start class r next → OthersStay board count start r next words → StayBefore start next words
      → AreSetsCanonical board count start (class + 1) next old
  unfolding class_word_of
  sets_more class r words next old listed here canonical_form others before = record {
    canonical_form = λ set small counted low. elim (cases_eq (class_of board set) class) [
      | inl e ↦ canonical_form set small (same_class board few y count set small counted class r listed e) ∙ ap (λ k. 16 * k + symmetry_of board set) (sym e)
      | inr d ↦ others set small counted (other_class board few y count set small counted class r listed d) ∙ here.canonical_form set small counted (omega (arith, low, d))
    ];
    before = λ i low. before i low ∙ here.before i low;
  }

  pub sets_all : (words old : List ℕ) → AreSetsCanonical board count start (length (representatives_of board count)) words old → HaveClassWords board count start words
  sets_all words old here = λ set small counted. here.canonical_form set small counted (class_inside board few y count set small counted)

-- ---- the word of a set

-- the class and the symmetry, from both in one number
pub lead_parts : (board : Shape) (set : ℕ) → symmetry_of board set < 16 → (class_word_of board set / 16 ≡ class_of board set) × (class_word_of board set % 16 ≡ symmetry_of board set)
unfolding class_word_of
lead_parts board set low = (omega (arith, low), omega (arith, low))
