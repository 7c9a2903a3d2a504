-- The orbit of an entry: the canonical form of each position that has it is the position of the
-- entry, and all positions with this canonical form have it.
use Rattle.std.proofs.Common.{◌≡◌, ◌≢◌, ℕ, zero, suc, ◌+◌, ◌-◌, ◌<◌, ◌≤◌, Bool, true, false, nat_eq, List, [], ◌∷◌, length, map, filter, ◌↔◌, refl, sym, ◌∙◌, ap, ap₂, subst, inl, inr, arith}
use Rattle.std.proofs.lemmas.Bool.{cases_Bool, cases_eq, eqb-true, eq-eqb, ne_eqb}
use Rattle.std.proofs.lemmas.List.Elements.{All-contains_itself, All-weaker, Contains-append_left, Contains-append_right, Contains-append_cases, Contains-push, Contains-push_cases}
use Rattle.std.proofs.lemmas.List.Kept.{AllPairs-cons}
use Rattle.std.proofs.lemmas.List.{length-map}
use Rattle.std.specs.List.{range_with_len, AllPairs, Contains}
use Rattle.morris_board.specs.Boards.{Shape}
use Rattle.morris_board.specs.Sets.{members, count_of}
use Rattle.morris_board.specs.Positions.{Sides, IsPosition}
use Rattle.morris_board.specs.Symmetries.{image_of, image_sides, inverse_of, HasSymmetries}
use Rattle.morris_board.proofs.ImageLaws.{IsOneToOne, IsOneToOne-back, one_to_one, IsPosition-image, count_of-image, image_sides-undone}
use Rattle.morris_index.specs.Numbering.{rank_of, number_outside}
use Rattle.morris_index.specs.Classes.{symmetry_of, classes_below, class_of}
use Rattle.morris_index.specs.ClassPairs.{canonical_form, class_index_of}
use Rattle.morris_index.specs.Pairs.{Counts, is_of}
use Rattle.morris_index.specs.Orbits.{HasEntry, preimage, is_canonicalized_by, orbit_from}
use Rattle.morris_index.proofs.ClassLaws.{symmetry_within}
use Rattle.morris_index.specs.ClassMoves.{class_start_of}
use Rattle.morris_index.proofs.ClassPairLaws.{canonical_own, entry-parts}

-- ---- the results of a function at those numbers of a range that pass a test

module _ {X : Type 0} (f : ℕ → X) (keep : ℕ → Bool) where
  abbrev pub table : ℕ → ℕ → List X
  table a n = map f (filter keep (range_with_len a n))

  table-yes : (a n : ℕ) → keep a ≡ true → table a (suc n) ≡ f a ∷ table (a + 1) n
  table-yes a n h = rw h refl

  table-no : (a n : ℕ) → keep a ≡ false → table a (suc n) ≡ table (a + 1) n
  table-no a n h = rw h refl

  pub table-from : (a n : ℕ) (x : X) → Contains (table a n) x → (s : ℕ) × (a ≤ s) × (s < a + n) × (keep s ≡ true) × (f s ≡ x)
  table-from a zero x c = absurd (omega arith)
  table-from a (suc n) x c = elim (cases_Bool (keep a)) [
    | inl h ↦ elim (Contains-append_cases (f a ∷ []) (table (a + 1) n) x (subst (λ xs. Contains xs x) (table-yes a n h) c)) [
      | inl here ↦ elim (Contains-push_cases [] (f a) x here) [
        | inl none ↦ absurd (omega arith)
        | inr e ↦ (a, omega arith, omega arith, h, e)
      ]
      | inr later ↦ let r = table-from (a + 1) n x later in (r.0, omega (arith, r.1), omega (arith, r.2), r.3, r.4)
    ]
    | inr h ↦ let r = table-from (a + 1) n x (subst (λ xs. Contains xs x) (table-no a n h) c) in (r.0, omega (arith, r.1), omega (arith, r.2), r.3, r.4)
  ]

  pub table-has : (a n s : ℕ) → a ≤ s → s < a + n → keep s ≡ true → Contains (table a n) (f s)
  table-has a zero s low high h = absurd (omega arith)
  table-has a (suc n) s low high h = elim (cases_eq s a) [
    | inl e ↦
        subst (λ xs. Contains xs (f s)) (sym (table-yes a n (ap keep (sym e) ∙ h)))
        (subst (λ t. Contains (f a ∷ table (a + 1) n) (f t)) (sym e) (Contains-append_left (f a ∷ []) (table (a + 1) n) (f a) (Contains-push [] (f a))))
    | inr d ↦
        let later : Contains (table (a + 1) n) (f s) = table-has (a + 1) n s (omega arith) (omega arith) h in
        elim (cases_Bool (keep a)) [
          | inl y ↦ subst (λ xs. Contains xs (f s)) (sym (table-yes a n y)) (Contains-append_right (f a ∷ []) (table (a + 1) n) (f s) later)
          | inr y ↦ subst (λ xs. Contains xs (f s)) (sym (table-no a n y)) later
        ]
  ]

  -- where no two results are the same, none stands in the list twice
  pub table-once : (end : ℕ) → ((s t : ℕ) → s < end → t < end → keep s ≡ true → keep t ≡ true → f s ≡ f t → s ≡ t) → (a n : ℕ) → a + n ≤ end
      → AllPairs (λ x y. x ≢ y) (table a n)
  table-once end alone a zero fits = λ i j d less within. absurd (omega arith)
  table-once end alone a (suc n) fits = elim (cases_Bool (keep a)) [
    | inl h ↦
        subst (AllPairs (λ x y. x ≢ y)) (sym (table-yes a n h))
        (AllPairs-cons (λ x y. x ≢ y) (f a) (table (a + 1) n)
        (All-weaker (Contains (table (a + 1) n)) (λ y. f a ≢ y) (λ y c e.
        let r = table-from (a + 1) n y c in
        let same : a ≡ r.0 = alone a r.0 (omega arith) (omega (arith, r.2)) h r.3 (e ∙ sym r.4) in
        omega (arith, r.1)) (table (a + 1) n) (All-contains_itself (table (a + 1) n)))
        (table-once end alone (a + 1) n (omega arith)))
    | inr h ↦ subst (AllPairs (λ x y. x ≢ y)) (sym (table-no a n h)) (table-once end alone (a + 1) n (omega arith))
  ]

  table-few : (a n : ℕ) → length (table a n) ≤ n
  table-few a zero = omega arith
  table-few a (suc n) = elim (cases_Bool (keep a)) [
    | inl h ↦ omega (arith, ap length (table-yes a n h), table-few (a + 1) n)
    | inr h ↦ omega (arith, ap length (table-no a n h), table-few (a + 1) n)
  ]

-- ---- the list, symmetry by symmetry

module _ (board : Shape) (p : Sides) (first : ℕ) where
  abbrev rest : ℕ → List Sides
  rest n = table (preimage board p) (is_canonicalized_by board p) first n

  abbrev after : ℕ → List Sides
  after n = table (preimage board p) (is_canonicalized_by board p) (first + 1) n

  pub falls-yes : first < board.symmetries → symmetry_of board (preimage board p first).own ≡ first
      → orbit_from board p first ≡ preimage board p first ∷ orbit_from board p (first + 1)
  unfolding orbit_from
  falls-yes low h =
      let e : board.symmetries - first ≡ suc (board.symmetries - (first + 1)) = omega arith in
      ap rest e ∙ table-yes (preimage board p) (is_canonicalized_by board p) first (board.symmetries - (first + 1)) (eq-eqb _ _ h)

  pub falls-no : first < board.symmetries → symmetry_of board (preimage board p first).own ≢ first
      → orbit_from board p first ≡ orbit_from board p (first + 1)
  unfolding orbit_from
  falls-no low h =
      let e : board.symmetries - first ≡ suc (board.symmetries - (first + 1)) = omega arith in
      ap rest e ∙ table-no (preimage board p) (is_canonicalized_by board p) first (board.symmetries - (first + 1)) (ne_eqb _ _ h)

  pub falls-end : board.symmetries ≤ first → orbit_from board p first ≡ []
  unfolding orbit_from
  falls-end past = let e : board.symmetries - first ≡ 0 = omega arith in ap rest e

-- ---- images under the inverse of a symmetry

module _ (board : Shape) (few : board.points ≤ 24) (y : HasSymmetries board) where
  one : (s : ℕ) → s < board.symmetries → IsOneToOne board.points (board.image s) (board.image (inverse_of s))
  one s low = one_to_one board _ _ (y.symmetry s low)

  back : (s : ℕ) → s < board.symmetries → IsOneToOne board.points (board.image (inverse_of s)) (board.image s)
  back s low = IsOneToOne-back board.points _ _ (one s low)

  -- a position has as many stones as its image
  pub image_count : (x p : Sides) (t : ℕ) → IsPosition board x → image_sides (board.image (inverse_of t)) x ≡ p → t < board.symmetries → count_of x.own ≡ count_of p.own
  image_count x p t h e low =
      sym (count_of-image board.points few _ _ (back t low) x.own h.stones.own_within) ∙ ap (λ (s : Sides). count_of s.own) e

  module _ (p : Sides) (h : IsPosition board p) (s : ℕ) (low : s < board.symmetries) where
    taken_position : IsPosition board (preimage board p s)
    taken_position = IsPosition-image board few _ _ (back s low) p h

    taken_own : count_of (preimage board p s).own ≡ count_of p.own
    taken_own = count_of-image board.points few _ _ (back s low) p.own h.stones.own_within

    taken_other : count_of (preimage board p s).other ≡ count_of p.other
    taken_other = count_of-image board.points few _ _ (back s low) p.other h.stones.other_within

    -- where s is its canonicalizing symmetry, its canonical form is p
    taken_canonical : is_canonicalized_by board p s ≡ true → canonical_form board (preimage board p s) ≡ p
    unfolding canonical_form
    taken_canonical is =
        ap (λ t. image_sides (board.image t) (preimage board p s)) (eqb-true _ _ is)
        ∙ image_sides-undone board few _ _ (back s low) p h.stones

  -- and each position is the preimage of its canonical form
  module _ (x : Sides) (h : IsPosition board x) where
    canonicalizing_low : symmetry_of board x.own < board.symmetries
    canonicalizing_low = symmetry_within board few y x.own h.stones.own_within

    canonical_taken : preimage board (canonical_form board x) (symmetry_of board x.own) ≡ x
    unfolding canonical_form
    canonical_taken = image_sides-undone board few _ _ (one (symmetry_of board x.own) canonicalizing_low) x h.stones

    canonical_taken_by : is_canonicalized_by board (canonical_form board x) (symmetry_of board x.own) ≡ true
    canonical_taken_by = eq-eqb _ _ (ap (λ (s : Sides). symmetry_of board s.own) canonical_taken)

-- ---- the positions that have an entry

module _ (board : Shape) (n : ℕ) (few : n ≤ 24) (points : board.points ≡ n) (y : HasSymmetries board) (c : Counts) where
  low : board.points ≤ 24
  low = omega arith

  -- positions with as many stones and the same canonical form have the same entry
  module _ (s t : Sides) (h : IsPosition board s) (k : IsPosition board t) (own : count_of s.own ≡ count_of t.own) (other : count_of s.other ≡ count_of t.other)
      (same : canonical_form board s ≡ canonical_form board t) where
    same_class : class_of board s.own ≡ class_of board t.own
    unfolding class_of
    same_class =
        ap₂ (classes_below board) own
        (sym (canonical_own board n few points y s h) ∙ ap (λ (x : Sides). x.own) same ∙ canonical_own board n few points y t k)

    same_start : class_start_of board n c s.own (count_of s.other) ≡ class_start_of board n c t.own (count_of t.other)
    same_start = rw (own, other, same_class) refl

    same_entry : class_index_of board n c s ≡ class_index_of board n c t
    same_entry =
        entry-parts board n few points y c s
        ∙ ap₂ (λ a b. a + b) same_start (ap (λ (x : Sides). rank_of (map (number_outside x.own) (members x.other))) same)
        ∙ sym (entry-parts board n few points y c t)

  module _ (entry : ℕ) (p : Sides) (h : HasEntry board n c entry p)
      (canonical_there : (s : Sides) → IsPosition board s → is_of c s ≡ true → class_index_of board n c s ≡ entry → p ≡ canonical_form board s) where
    itself : canonical_form board p ≡ p
    itself = sym (canonical_there p h.lawful h.counts h.entry_is)

    falls_has : (s : ℕ) → s < board.symmetries → is_canonicalized_by board p s ≡ true → HasEntry board n c entry (preimage board p s)
    falls_has s s_low is = record {
      lawful = taken_position board low y p h.lawful s s_low;
      counts = rw (taken_own board low y p h.lawful s s_low, taken_other board low y p h.lawful s s_low) h.counts;
      entry_is = same_entry (preimage board p s) p (taken_position board low y p h.lawful s s_low) h.lawful (taken_own board low y p h.lawful s s_low)
          (taken_other board low y p h.lawful s s_low) (taken_canonical board low y p h.lawful s s_low is ∙ sym itself) ∙ h.entry_is;
    }

    pub falls-listed : (x : Sides) → Contains (orbit_from board p 0) x ↔ HasEntry board n c entry x
    unfolding orbit_from
    falls-listed x = (
      (λ k.
          let r = table-from (preimage board p) (is_canonicalized_by board p) 0 (board.symmetries - 0) x k in
          subst (HasEntry board n c entry) r.4 (falls_has r.0 (omega (arith, r.2)) r.3)),
      (λ k.
          let there : p ≡ canonical_form board x = canonical_there x k.lawful k.counts k.entry_is in
          let g_low : symmetry_of board x.own < board.symmetries = canonicalizing_low board low y x k.lawful in
          let is : is_canonicalized_by board p (symmetry_of board x.own) ≡ true =
          ap (λ t. is_canonicalized_by board t (symmetry_of board x.own)) there ∙ canonical_taken_by board low y x k.lawful in
          subst (Contains (table (preimage board p) (is_canonicalized_by board p) 0 (board.symmetries - 0)))
          (ap (λ t. preimage board t (symmetry_of board x.own)) there ∙ canonical_taken board low y x k.lawful)
          (table-has (preimage board p) (is_canonicalized_by board p) 0 (board.symmetries - 0) (symmetry_of board x.own) (omega arith) (omega arith) is)),
    )

pub falls-once : (board : Shape) (p : Sides) → AllPairs (λ s t. s ≢ t) (orbit_from board p 0)
unfolding orbit_from
falls-once board p =
    table-once (preimage board p) (is_canonicalized_by board p)
    board.symmetries
    (λ s t s_low t_low hs ht e. sym (eqb-true _ _ hs) ∙ ap (λ (x : Sides). symmetry_of board x.own) e ∙ eqb-true _ _ ht)
    0 (board.symmetries - 0) (omega arith)

pub falls-few : (board : Shape) (p : Sides) → length (orbit_from board p 0) ≤ board.symmetries
unfolding orbit_from
falls-few board p = omega (arith, table-few (preimage board p) (is_canonicalized_by board p) 0 (board.symmetries - 0))

-- how many positions have a canonical form depends on the stones of the player to move alone
pub falls_same : (board : Shape) (p q : Sides) → q.own ≡ p.own → length (orbit_from board q 0) ≡ length (orbit_from board p 0)
unfolding orbit_from
falls_same board p q own =
    length-map (filter (is_canonicalized_by board q) (range_with_len 0 (board.symmetries - 0))) (preimage board q)
    ∙ ap (λ set. length (filter (λ s. nat_eq (symmetry_of board (image_of (board.image (inverse_of s)) set)) s) (range_with_len 0 (board.symmetries - 0)))) own
    ∙ sym (length-map (filter (is_canonicalized_by board p) (range_with_len 0 (board.symmetries - 0))) (preimage board p))
