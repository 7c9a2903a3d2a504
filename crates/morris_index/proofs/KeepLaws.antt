-- The table of the classes of sets, filled set by set in the order of their ranks.
use Rattle.std.proofs.Common.{◌≡◌, ℕ, suc, ◌+◌, ◌-◌, ◌^◌, ◌<◌, ◌≤◌, true, List, [], ◌∷◌, ◌++◌, length, get_or, refl, sym, ap, ap₂, ◌∙◌, inl, inr, subst, arith, length-append}
use Rattle.std.proofs.lemmas.Bool.{cases_eq}
use Rattle.std.proofs.lemmas.List.{get_or_append_left, get_or_push, get_or-map, length-map}
use Rattle.morris_board.specs.Boards.{Shape}
use Rattle.morris_board.specs.Sets.{count_of}
use Rattle.morris_board.specs.Symmetries.{HasSymmetries}
use Rattle.morris_board.proofs.PointsLaws.{has-none}
use Rattle.morris_index.specs.Binomials.{choose}
use Rattle.morris_index.specs.Numbering.{IsRanked}
use Rattle.morris_index.specs.Classes.{representative_of, is_representative, classes_below, class_of, class_count, AreCanonicalizing, IsClassTable, IsClasses, classes_in, canonicalizing_in}
use Rattle.morris_index.specs.declared.classes.SetClass.{SetClass}
use Rattle.morris_index.proofs.BinomialTable.{choose_small}
use Rattle.morris_index.proofs.IndexLaws.{number_outside-none, rank_outside-lt, rank_outside-same}
use Rattle.morris_index.proofs.OrderLaws.{rank_at, rank_less, mask_less}
use Rattle.morris_index.proofs.ClassLaws.{representative_within, representative_count, representative_le, class_of-representative, representative_twice, test_parts, test_from, test_other, test_count, none_below, none_between, one_more, no_more, class_lt, class_alone}

-- ---- ranked sets

-- a set of `count` points has its own rank
pub ranked : (n count set : ℕ) → set < 2 ^ n → count_of set ≡ count → IsRanked n 0 count (rank_at set) set
ranked n count set within counted = record { within = within; apart = λ p h. has-none p; counted = counted; ranked = refl }

module _ (n count : ℕ) (low : n ≤ 24) where
  pub rank_lt : (set : ℕ) → set < 2 ^ n → count_of set ≡ count → rank_at set < choose n count
  rank_lt set within counted =
      omega (
        arith,
        rank_outside-lt n 0 (omega arith) set within (λ p h. has-none p),
        ap (λ k. choose k (count_of set)) (number_outside-none n),
        ap (choose n) counted,
      )

  module _ (r t : ℕ) (s u : ℕ) (hs : IsRanked n 0 count r s) (hu : IsRanked n 0 count t u) where
    counts : count_of s ≡ count_of u
    counts = hs.counted ∙ sym hu.counted

    pub ranks_less : s < u → r < t
    ranks_less less = omega (arith, hs.ranked, hu.ranked, rank_less n (omega arith) s u hs.within hu.within counts less)

    pub masks_less : r < t → s < u
    masks_less less =
        let l : rank_at s < rank_at u = omega (arith, hs.ranked, hu.ranked) in
        mask_less n (omega arith) s u hs.within hu.within counts l

    pub ranks_same : r ≡ t → s ≡ u
    ranks_same e = rank_outside-same n 0 (omega arith) s u hs.within hu.within hs.apart hu.apart counts (hs.ranked ∙ e ∙ sym hu.ranked)

-- ---- one set more

-- the representative of the class with this number
pub record IsFound (board : Shape) (n count class found : ℕ) : Type 0 where
  pub own : representative_of board found ≡ found
  pub counted : count_of found ≡ count
  pub within : found < 2 ^ n
  pub class_is : class_of board found ≡ class

module _ (board : Shape) (n count : ℕ) (low : n ≤ 24) (points : board.points ≡ n) (y : HasSymmetries board) where
  few : board.points ≤ 24
  few = omega arith

  on_board : (set : ℕ) → set < 2 ^ n → set < 2 ^ board.points
  on_board set h = subst (λ k. set < 2 ^ k) (sym points) h

  -- before the first set
  pub table-none : IsClassTable board n count 0 [] [] []
  table-none = record {
    classes_len = refl;
    canonicalizing_len = refl;
    few = omega arith;
    class = λ r s h. absurd (omega arith);
    set_classes = λ r s h. absurd (omega arith);
    listed = λ k h. absurd (omega arith);
    whole = λ mask le f g. none_below board count mask (λ s less. elim (cases_eq (count_of s) count) [
      | inl e ↦ absurd (omega (arith, f (rank_at s) s (ranked n count s (omega arith) e) less))
      | inr d ↦ test_count board count s d
    ]);
  }

  module _ (rank set : ℕ) (here : IsRanked n 0 count rank set) where
    -- no set between this one and the next
    pub beyond : (mask : ℕ) → mask ≤ 2 ^ n
        → ((r s : ℕ) → IsRanked n 0 count r s → s < mask → r < rank + 1)
        → ((r s : ℕ) → IsRanked n 0 count r s → r < rank + 1 → s < mask)
        → classes_below board count mask ≡ classes_below board count (suc set)
    beyond mask le f g =
        let less : set < mask = g rank set here (omega arith) in
        let e : suc set + (mask - suc set) ≡ mask = omega arith in
        ap (classes_below board count) (sym e)
        ∙ none_between board count (suc set) (mask - suc set) (λ s above under. elim (cases_eq (count_of s) count) [
          | inl counted ↦
              let h : IsRanked n 0 count (rank_at s) s = ranked n count s (omega arith) counted in
              let at : rank_at s < rank + 1 = f (rank_at s) s h (omega arith) in
              absurd (omega (arith, ranks_less n count low rank (rank_at s) set s here h (omega arith)))
          | inr d ↦ test_count board count s d
        ])

  module _ (rank set : ℕ) (here : IsRanked n 0 count rank set) (classes canonicalizing representatives : List ℕ)
      (before : IsClassTable board n count rank classes canonicalizing representatives) where
    small : set < 2 ^ board.points
    small = on_board set here.within

    -- the number of a representative that is this set
    below_is : classes_below board count set ≡ length representatives
    below_is =
        before.whole set (omega (arith, here.within)) (λ r s h less. ranks_less n count low r rank s set h here less)
        (λ r s h less. masks_less n count low r rank s set h here less)

    own_class : representative_of board set ≡ set → length representatives ≡ class_of board set
    unfolding class_of
    own_class own = sym (rw (own, here.counted) below_is)

    -- the rank of the representative, where that is another set
    abbrev other : ℕ
    other = representative_of board set

    pub other_within : other < 2 ^ n
    other_within = subst (λ k. other < 2 ^ k) points (representative_within board few y set small)

    pub other_ranked : IsRanked n 0 count (rank_at other) other
    other_ranked = ranked n count other other_within (representative_count board few y set small ∙ here.counted)

    pub other_rank : (other ≡ set → ⊥) → rank_at other < rank
    other_rank d =
        let le = representative_le board few y set small in
        ranks_less n count low (rank_at other) rank other set other_ranked here (omega arith)

    other_class : (other ≡ set → ⊥) → get_or classes (rank_at other) 0 ≡ class_of board set
    other_class d = before.class (rank_at other) other (other_rank d) other_ranked ∙ class_of-representative board few y set small

    -- the lists with the entry of this set at their end
    entered : (is : ℕ → ℕ → Type 0) (list : List ℕ) (x : ℕ) → length list ≡ rank → is set x
        → ((r s : ℕ) → r < rank → IsRanked n 0 count r s → is s (get_or list r 0))
        → (r s : ℕ) → r < rank + 1 → IsRanked n 0 count r s → is s (get_or (list ++ x ∷ []) r 0)
    entered is list x len new old r s less h = elim (cases_eq r rank) [
      | inl e ↦
          subst (is s) (sym (get_or_push list x 0 r (len ∙ sym e))) (subst (λ t. is t x) (sym (ranks_same n count low r rank s set h here e)) new)
      | inr d ↦ subst (is s) (sym (get_or_append_left list (x ∷ []) 0 r (omega arith))) (old r s (omega arith) h)
    ]

    module _ (ways : ℕ) (ways_are : AreCanonicalizing board set ways) where
      -- the set is a representative
      pub table-new : other ≡ set
          → IsClassTable board n count (rank + 1) (classes ++ length representatives ∷ []) (canonicalizing ++ ways ∷ []) (representatives ++ set ∷ [])
      table-new own = record {
        classes_len = omega (arith, before.classes_len, length-append classes (length representatives ∷ []));
        canonicalizing_len = omega (arith, before.canonicalizing_len, length-append canonicalizing (ways ∷ []));
        few = omega (arith, before.few, length-append representatives (set ∷ []));
        class = entered (λ t x. x ≡ class_of board t) classes (length representatives) before.classes_len (own_class own) before.class;
        set_classes = entered (AreCanonicalizing board) canonicalizing ways before.canonicalizing_len ways_are before.set_classes;
        listed = λ k less. elim (cases_eq k (length representatives)) [
          | inl e ↦
              let at : get_or (representatives ++ set ∷ []) k 0 ≡ set = get_or_push representatives set 0 k (sym e) in
              subst (λ s. (is_representative board count s ≡ true) × (s < 2 ^ n) × (classes_below board count s ≡ k)) (sym at)
              (is_new own, here.within, below_is ∙ sym e)
          | inr d ↦
              let under : k < length representatives = omega (arith, length-append representatives (set ∷ [])) in
              let at : get_or (representatives ++ set ∷ []) k 0 ≡ get_or representatives k 0 = get_or_append_left representatives (set ∷ []) 0 k under in
              subst (λ s. (is_representative board count s ≡ true) × (s < 2 ^ n) × (classes_below board count s ≡ k)) (sym at) (before.listed k under)
        ];
        whole = λ mask le f g.
            omega (arith, beyond rank set here mask le f g, one_more board count set (is_new own), below_is, length-append representatives (set ∷ []));
      }
        where
          is_new : other ≡ set → is_representative board count set ≡ true
          is_new own = test_from board count set own here.counted

      -- it isn't: its class is that of its representative
      pub table-other : (other ≡ set → ⊥)
          → IsClassTable board n count (rank + 1) (classes ++ get_or classes (rank_at other) 0 ∷ []) (canonicalizing ++ ways ∷ []) representatives
      table-other d = record {
        classes_len = omega (arith, before.classes_len, length-append classes (get_or classes (rank_at other) 0 ∷ []));
        canonicalizing_len = omega (arith, before.canonicalizing_len, length-append canonicalizing (ways ∷ []));
        few = omega (arith, before.few);
        class = entered (λ t x. x ≡ class_of board t) classes (get_or classes (rank_at other) 0) before.classes_len (other_class d) before.class;
        set_classes = entered (AreCanonicalizing board) canonicalizing ways before.canonicalizing_len ways_are before.set_classes;
        listed = before.listed;
        whole = λ mask le f g. beyond rank set here mask le f g ∙ no_more board count set (test_other board count set d) ∙ below_is;
      }

  -- ---- all sets

  module _ (classes canonicalizing representatives : List ℕ) (all : IsClasses board n count classes canonicalizing representatives) where
    pub class_count-is : class_count board count ≡ length representatives
    unfolding class_count
    class_count-is =
        ap (λ k. classes_below board count (2 ^ k)) points
        ∙ all.table.whole (2 ^ n) (omega arith) (λ r s h less. omega (arith, h.ranked, rank_lt n count low s h.within h.counted)) (λ r s h less. h.within)

    pub classes_few : length representatives < 2 ^ 32
    classes_few = omega (arith, all.few, all.table.few, choose_small n count (omega arith) (omega (arith, all.few)))

    module _ (set : ℕ) (within : set < 2 ^ n) (counted : count_of set ≡ count) where
      here : IsRanked n 0 count (rank_at set) set
      here = ranked n count set within counted

      pub rank_in : rank_at set < choose n count
      rank_in = rank_lt n count low set within counted

      pub class_at : get_or classes (rank_at set) 0 ≡ class_of board set
      class_at = all.table.class (rank_at set) set rank_in here

      pub leads_at : AreCanonicalizing board set (get_or canonicalizing (rank_at set) 0)
      leads_at = all.table.set_classes (rank_at set) set rank_in here

      pub class_of-lt : class_of board set < class_count board count
      unfolding class_of class_count
      class_of-lt =
          let small = on_board set within in
          rw counted
          (class_lt board count (representative_of board set) (2 ^ board.points)
          (test_from board count (representative_of board set) (representative_twice board few y set small) (representative_count board few y set small ∙ counted))
          (representative_within board few y set small))

      -- the representative of its class is the one that is listed
      pub representative_alone : (r : ℕ) → representative_of board r ≡ r → count_of r ≡ count → class_of board r ≡ class_of board set → r ≡ representative_of board set
      unfolding class_of
      representative_alone r own r_count same =
          let small = on_board set within in
          class_alone board count r (representative_of board set)
          (test_from board count r own r_count)
          (test_from board count (representative_of board set) (representative_twice board few y set small) (representative_count board few y set small ∙ counted))
          (ap₂ (classes_below board) (sym r_count) (sym own) ∙ same ∙ ap (λ k. classes_below board k (representative_of board set)) counted)

    module _ (class : ℕ) (low_class : class < class_count board count) where
      abbrev found : ℕ
      found = get_or representatives class 0

      is_listed : (is_representative board count found ≡ true) × (found < 2 ^ n) × (classes_below board count found ≡ class)
      is_listed = all.table.listed class (omega (arith, class_count-is))

      pub found_is : IsFound board n count class found
      unfolding class_of
      found_is =
          let parts = test_parts board count found is_listed.0 in
          record { own = parts.0; counted = parts.1; within = is_listed.1; class_is = rw (parts.0, parts.1) is_listed.2 }

  -- ---- what the table has of one set

  module _ (set_classes : List SetClass) (representatives : List ℕ) (all : IsClasses board n count (classes_in set_classes) (canonicalizing_in set_classes) representatives)
      (set rank : ℕ) (within : set < 2 ^ n) (counted : count_of set ≡ count) (is : rank ≡ rank_at set) where
    pub lead_in : rank < length set_classes
    lead_in =
        omega (
          arith,
          is,
          rank_in (classes_in set_classes) (canonicalizing_in set_classes) representatives all set within counted,
          all.table.classes_len,
          length-map set_classes (λ (set_class : SetClass). set_class.class),
        )

    module _ (set_class : SetClass) (here : set_class ≡ get_or set_classes rank set_class) where
      pub lead_class : set_class.class ≡ class_of board set
      lead_class =
          ap (λ (l : SetClass). l.class) here
          ∙ sym (get_or-map (λ (l : SetClass). l.class) set_classes rank set_class 0 lead_in)
          ∙ ap (λ r. get_or (classes_in set_classes) r 0) is
          ∙ class_at (classes_in set_classes) (canonicalizing_in set_classes) representatives all set within counted

      pub lead_leads : AreCanonicalizing board set set_class.canonicalizing
      lead_leads =
          subst (AreCanonicalizing board set)
          (sym (ap (λ (l : SetClass). l.canonicalizing) here
          ∙ sym (get_or-map (λ (l : SetClass). l.canonicalizing) set_classes rank set_class 0 lead_in)
          ∙ ap (λ r. get_or (canonicalizing_in set_classes) r 0) is))
          (leads_at (classes_in set_classes) (canonicalizing_in set_classes) representatives all set within counted)

-- the class in the table at a rank
pub class_in : (set_classes : List SetClass) (rank : ℕ) (set_class : SetClass) → rank < length set_classes → set_class ≡ get_or set_classes rank set_class → set_class.class ≡ get_or (classes_in set_classes) rank 0
class_in set_classes rank set_class low here = ap (λ (l : SetClass). l.class) here ∙ sym (get_or-map (λ (l : SetClass). l.class) set_classes rank set_class 0 low)
