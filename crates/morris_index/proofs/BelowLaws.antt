-- Laws of the pairs below a pair: how the table of all pairs is gone through, and the order in
-- which they stand.
use Rattle.std.proofs.Common.{◌≡◌, ℕ, zero, suc, ◌+◌, ◌-◌, ◌<◌, ◌≤◌, Bool, true, false, not, ◌&&◌, ◌||◌, eqb, leb, List, [], ◌∷◌, ◌++◌, map, length, take, drop, get_or, refl, sym, ◌∙◌, ap, subst, inl, inr, arith, append_assoc, Some, option_map}
use Rattle.std.specs.List.{range_with_len, list_all, list_any, filter, Contains, slice_get}
use Rattle.std.proofs.lemmas.Bool.{cases_eq, both_ways, eqb-true, leb-true, le-leb, and_parts}
use Rattle.std.proofs.lemmas.List.{append-nil, drop_more, take_more, take_all, take-append-drop}
use Rattle.std.proofs.lemmas.List.Elements.{Contains-append_left}
use Rattle.std.proofs.lemmas.List.Sums.{length-filter, count_by-le-length, AllPass-from_list_all}
use Rattle.std.proofs.lemmas.Map.Views.{Contains-from_any}
use Rattle.std.proofs.lemmas.Option.{slice_get_within, get_or_from_slice_get, slice_get-map, slice_get-get_or}
use Rattle.std.proofs.Math.Path.{ap₂}
use Rattle.morris_index.specs.Pairs.{Counts, counts, IsPair, all_needs, all_pairs, is_below, below_of, below_from, EndsIn, NeedsFirst}
use Rattle.morris_index.specs.declared.below.TheConstants as table

-- ---- the table of all pairs

abbrev pub pair_at : ℕ × ℕ → Counts
pair_at entry = counts entry.0 entry.1

pairs-table : map pair_at table.PAIRS ≡ all_pairs
unfolding all_pairs
pairs-table = refl

length-all_pairs : length all_pairs ≡ 28
unfolding all_pairs
length-all_pairs = refl

all_lawful : list_all (λ d. leb 3 d.lesser && leb d.lesser d.greater) all_pairs ≡ true
unfolding all_pairs
all_lawful = refl

-- what the code reads
pub table_at : (place : ℕ) (d : ℕ × ℕ) → place < 28 → slice_get all_pairs place ≡ Some (pair_at (get_or table.PAIRS place d))
table_at place d low =
    ap (λ t. slice_get t place) (sym pairs-table)
    ∙ slice_get-map pair_at table.PAIRS place
    ∙ ap (option_map pair_at) (slice_get-get_or table.PAIRS place d (omega arith))

module _ (place : ℕ) (d : Counts) (is : slice_get all_pairs place ≡ Some d) where
  within : place < length all_pairs
  within = slice_get_within all_pairs place d is

  here : get_or all_pairs place d ≡ d
  here = get_or_from_slice_get all_pairs place d d is

  pub entry_lawful : (3 ≤ d.lesser) × (d.lesser ≤ d.greater)
  entry_lawful =
      let both : (leb 3 d.lesser && leb d.lesser d.greater) ≡ true =
      ap (λ e. leb 3 e.lesser && leb e.lesser e.greater) (sym here) ∙ AllPass-from_list_all (λ e. leb 3 e.lesser && leb e.lesser e.greater) all_pairs all_lawful place d within in
      let parts = and_parts (leb 3 d.lesser) (leb d.lesser d.greater) both in
      (leb-true _ _ parts.0, leb-true _ _ parts.1)

  next : (c : Counts) → below_from c place ≡ filter (is_below c) (d ∷ drop (place + 1) all_pairs)
  unfolding below_from
  next c = ap (filter (is_below c)) (drop_more all_pairs place d within ∙ ap (λ x. x ∷ drop (place + 1) all_pairs) here)

  pub below-yes : (c : Counts) → is_below c d ≡ true → below_from c place ≡ d ∷ below_from c (place + 1)
  unfolding below_from
  below-yes c h = next c ∙ rw h refl

  pub below-no : (c : Counts) → is_below c d ≡ false → below_from c place ≡ below_from c (place + 1)
  unfolding below_from
  below-no c h = next c ∙ rw h refl

  -- a pair below one of the board is one too
  pub below_lawful : (n : ℕ) (c : Counts) → IsPair n c → is_below c d ≡ true → IsPair n d
  below_lawful n c h below =
      let parts = and_parts (leb d.greater c.greater) (leb d.lesser c.lesser) below in
      let less : d.greater ≤ c.greater = leb-true _ _ parts.0 in
      let fewer : d.lesser ≤ c.lesser = leb-true _ _ parts.1 in
      record {
        most = omega (arith, h.most);
        ordered = entry_lawful.1;
        least = entry_lawful.0;
        fits = omega (arith, h.fits);
      }

pub below-end : (c : Counts) (place : ℕ) → 28 ≤ place → below_from c place ≡ []
unfolding below_from
below-end c place h = ap (filter (is_below c)) (past all_pairs place (omega (arith, length-all_pairs)))
  where
    past : (cs : List Counts) (n : ℕ) → length cs ≤ n → drop n cs ≡ []
    past [] zero h = refl
    past [] (suc n) h = refl
    past (c ∷ cs) zero h = absurd (omega arith)
    past (c ∷ cs) (suc n) h = past cs n (omega arith)

pub below-start : (c : Counts) → below_from c 0 ≡ below_of c
unfolding below_from below_of
below-start c = refl

pub length-below_of : (c : Counts) → length (below_of c) ≤ 28
unfolding below_of
length-below_of c = omega (arith, length-filter (is_below c) all_pairs, count_by-le-length (is_below c) all_pairs, length-all_pairs)

-- ---- what a test finds at each pair holds of each pair

in_range : (test : ℕ → Bool) (a n k : ℕ) → list_all test (range_with_len a n) ≡ true → a ≤ k → k < a + n → test k ≡ true
in_range test a zero k all low high = absurd (omega arith)
in_range test a (suc n) k all low high =
    let parts = and_parts (test a) (list_all test (range_with_len (a + 1) n)) all in
    elim (cases_eq k a) [
      | inl e ↦ rw e (parts.0)
      | inr d ↦ in_range test (a + 1) n k (parts.1) (omega arith) (omega arith)
    ]

abbrev holds_of_all : (Counts → Bool) → Bool
holds_of_all test = list_all (λ a. list_all (λ b. not (leb b a) || test (counts a b)) (range_with_len 3 7)) (range_with_len 3 7)

each_pair : (test : Counts → Bool) → holds_of_all test ≡ true → (n : ℕ) (c : Counts) → IsPair n c → test c ≡ true
each_pair test all n c h =
    ap (λ b. not b || test c) (sym (le-leb c.lesser c.greater h.ordered))
    ∙ in_range (λ b. not (leb b c.greater) || test (counts c.greater b)) 3 7 c.lesser
    (in_range (λ a. list_all (λ b. not (leb b a) || test (counts a b)) (range_with_len 3 7)) 3 7 c.greater all (omega (arith, h.ordered, h.least)) (omega (arith, h.most)))
    h.least (omega (arith, h.ordered, h.most))

abbrev same : Counts → Counts → Bool
same c d = eqb c.greater d.greater && eqb c.lesser d.lesser

same_is : (c d : Counts) → same c d ≡ true → c ≡ d
same_is c d h = let parts = and_parts (eqb c.greater d.greater) (eqb c.lesser d.lesser) h in ap₂ counts (eqb-true _ _ parts.0) (eqb-true _ _ parts.1)

-- the pair itself is the last
abbrev last_test : Counts → Bool
last_test c = not (eqb (length (below_of c)) 0) && same (get_or (below_of c) (length (below_of c) - 1) (counts 0 0)) c

last_all : holds_of_all last_test ≡ true
unfolding below_of all_pairs
last_all = refl

pub below_of-last : (n : ℕ) (c : Counts) → IsPair n c → EndsIn (below_of c) c
below_of-last n c h = (take (length (below_of c) - 1) (below_of c), ends (below_of c) (and_parts _ _ (each_pair last_test last_all n c h)))
  where
    ends : (cs : List Counts) → (not (eqb (length cs) 0) ≡ true) × (same (get_or cs (length cs - 1) (counts 0 0)) c ≡ true)
        → cs ≡ take (length cs - 1) cs ++ c ∷ []
    ends [] h = absurd (both_ways (not (eqb (length {A = Counts} []) 0)) refl (h.0))
    ends (d ∷ cs) h =
        let whole : length (d ∷ cs) ≤ length (d ∷ cs) - 1 + 1 = omega arith in
        sym (take_all (length (d ∷ cs) - 1 + 1) (d ∷ cs) whole)
        ∙ take_more (d ∷ cs) (length (d ∷ cs) - 1) (counts 0 0) (omega arith)
        ∙ ap (λ x. take (length (d ∷ cs) - 1) (d ∷ cs) ++ x ∷ []) (same_is _ _ (h.1))

-- each pair stands after those that it needs
needs_test : List Counts → List Counts → Bool
needs_test before [] = true
needs_test before (c ∷ cs) = list_all (λ d. list_any (same d) before) (all_needs c) && needs_test (before ++ c ∷ []) cs

needs_all : holds_of_all (λ c. needs_test [] (below_of c)) ≡ true
unfolding below_of all_pairs needs_test
needs_all = refl

needs_found : (front cs before after : List Counts) (c need : Counts) → needs_test front cs ≡ true → cs ≡ before ++ c ∷ after → Contains (all_needs c) need
    → Contains (front ++ before) need
unfolding needs_test
needs_found front cs [] after c need test e h =
    let parts = and_parts (list_all (λ d. list_any (same d) front) (all_needs c)) (needs_test (front ++ c ∷ []) after) (ap (needs_test front) (sym e) ∙ test) in
    let found : list_any (same need) front ≡ true = member (λ d. list_any (same d) front) (all_needs c) need (parts.0) h in
    rw (append-nil front) (Contains-from_any {eq = same} same_is need front found)
  where
    member : (p : Counts → Bool) (ds : List Counts) (d : Counts) → list_all p ds ≡ true → Contains ds d → p d ≡ true
    member p ds d all m = ap p (sym (m.2)) ∙ AllPass-from_list_all p ds all (m.0) d (m.1)
needs_found front cs (d ∷ before) after c need test e h =
    let parts = and_parts (list_all (λ d. list_any (same d) front) (all_needs d)) (needs_test (front ++ d ∷ []) (before ++ c ∷ after)) (ap (needs_test front) (sym e) ∙ test) in
    subst (λ ds. Contains ds need) (append_assoc front (d ∷ []) before)
    (needs_found (front ++ d ∷ []) (before ++ c ∷ after) before after c need (parts.1) refl h)

pub below_of-needs_first : (n : ℕ) (c : Counts) → IsPair n c → NeedsFirst (below_of c)
below_of-needs_first n c h = λ before after d need e k.
    needs_found [] (below_of c) before after d need (each_pair (λ c. needs_test [] (below_of c)) needs_all n c h) e k

-- what a pair below needs is below as well
pub below_of-needed : (n : ℕ) (c d need : Counts) → IsPair n c → Contains (below_of c) d → Contains (all_needs d) need → Contains (below_of c) need
below_of-needed n c d need h m k =
    let cut : below_of c ≡ take (m.0) (below_of c) ++ d ∷ drop (m.0 + 1) (below_of c) =
    sym (take-append-drop (m.0) (below_of c)) ∙ ap (λ t. take (m.0) (below_of c) ++ t) (drop_more (below_of c) (m.0) d (m.1) ∙ ap (λ x. x ∷ drop (m.0 + 1) (below_of c)) (m.2)) in
    subst (λ ds. Contains ds need) (sym cut) (Contains-append_left (take (m.0) (below_of c)) (d ∷ drop (m.0 + 1) (below_of c)) need
    (below_of-needs_first n c h (take (m.0) (below_of c)) (drop (m.0 + 1) (below_of c)) d need cut k))
