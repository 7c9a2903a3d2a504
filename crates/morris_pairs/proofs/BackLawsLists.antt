-- Laws of lists: what a range and a filtered list contain, and how many elements pass a test.
use Rattle.std.proofs.Common.{◌≡◌, ℕ, zero, suc, ◌+◌, ◌<◌, ◌≤◌, Bool, true, cond, List, [], ◌∷◌, map, filter, refl, sym, ap, ◌∙◌, subst, inl, inr, arith}
use Rattle.std.proofs.lemmas.Bool.{cases_Bool, cases_eq, cases_lt, lt-ltb, ltb-true}
use Rattle.std.specs.List.{AllPairs, Contains, range_with_len, count_by}
use Rattle.morris_moves.proofs.ListLaws.{Ascends, Contains-head, Contains-tail, any_contained, contained_any}
use Rattle.morris_pairs.specs.FilterLaws.{filter-contains, range_bounds}
use Rattle.morris_wave.proofs.Tests.{some_counted, count-cons, count_yes, count_no}

-- ---- what a range contains

pub Contains-range : (a n k : ℕ) → a ≤ k → k < a + n → Contains (range_with_len a n) k
Contains-range a zero k low high = absurd (omega arith)
Contains-range a (suc n) k low high = elim (cases_eq a k) [
  | inl e ↦ subst (λ z. Contains (a ∷ range_with_len (a + 1) n) z) e (Contains-head a (range_with_len (a + 1) n))
  | inr differ ↦ Contains-tail a (range_with_len (a + 1) n) k (Contains-range (a + 1) n k (omega arith) (omega arith))
]

-- ---- order

pub Ascends-range : (a n : ℕ) → Ascends (λ x y. x < y) (range_with_len a n)
Ascends-range a zero = tt
Ascends-range a (suc n) = (
  (λ y c. let r = range_bounds (a + 1) n y c in omega arith),
  Ascends-range (a + 1) n,
)

module _ {X : Type 0} (R : X → X → Type 0) where
  pub Ascends-filter : (p : X → Bool) (xs : List X) → Ascends R xs → Ascends R (filter p xs)
  Ascends-filter p [] a = a
  Ascends-filter p (x ∷ xs) a = elim (cases_Bool (p x)) [
    | inl holds ↦ rw holds ((λ y c. a.0 y (filter-contains p xs y c).0), Ascends-filter p xs a.1)
    | inr fails ↦ rw fails (Ascends-filter p xs a.1)
  ]

  pub Ascends-weaker : (S : X → X → Type 0) → ((x y : X) → R x y → S x y) → (xs : List X) → Ascends R xs → Ascends S xs
  Ascends-weaker S gives [] a = a
  Ascends-weaker S gives (x ∷ xs) a = ((λ y c. gives x y (a.0 y c)), Ascends-weaker S gives xs a.1)

  pub Ascends-from_AllPairs : (xs : List X) → AllPairs R xs → Ascends R xs
  Ascends-from_AllPairs [] a = tt
  Ascends-from_AllPairs (x ∷ xs) a = (
    (λ y c. subst (λ z. R x z) c.2 (a 0 (suc c.0) y (omega arith) (omega arith))),
    Ascends-from_AllPairs xs (λ i j d low high. a (suc i) (suc j) d (omega arith) (omega arith)),
  )

-- ---- how many elements pass a test

module _ {X : Type 0} (p : X → Bool) where
  pub counted : (xs : List X) (x : X) → Contains xs x → p x ≡ true → 0 < count_by p xs
  counted xs x c h = ltb-true 0 (count_by p xs) (some_counted p xs ∙ contained_any p xs x c h)

  pub found : (xs : List X) → 0 < count_by p xs → (x : X) × Contains xs x × (p x ≡ true)
  found xs h = any_contained p xs (sym (some_counted p xs) ∙ lt-ltb 0 (count_by p xs) h)

  -- at most one, where no two elements are the same but any two that pass are
  pub at_most_one : (xs : List X) → Ascends (λ x y. x ≡ y → ⊥) xs
      → ((x y : X) → Contains xs x → Contains xs y → p x ≡ true → p y ≡ true → x ≡ y) → count_by p xs ≤ 1
  at_most_one [] a same = omega arith
  at_most_one (x ∷ xs) a same = elim (cases_Bool (p x)) [
    | inl here ↦ elim (cases_lt 0 (count_by p xs)) [
      | inl more ↦
          let r = found xs more in
          absurd (a.0 r.0 r.1 (same x r.0 (Contains-head x xs) (Contains-tail x xs r.0 r.1) here r.2))
      | inr none ↦ omega (arith, count_yes p x xs here)
    ]
    | inr fails ↦
        omega (arith, count_no p x xs fails, at_most_one xs a.1 (λ y z c d. same y z (Contains-tail x xs y c) (Contains-tail x xs z d)))
  ]

  pub count_by-map : {Y : Type 0} (f : Y → X) (ys : List Y) → count_by p (map f ys) ≡ count_by (λ y. p (f y)) ys
  count_by-map f [] = refl
  count_by-map f (y ∷ ys) =
      count-cons p (f y) (map f ys) ∙ (ap (λ n. cond {A = ℕ} (p (f y)) 1 0 + n) (count_by-map f ys) ∙ sym (count-cons (λ z. p (f z)) y ys))

-- two numbers that are at most 1, and above 0 together
pub one_each : (m n : ℕ) → m ≤ 1 → n ≤ 1 → (0 < m → 0 < n) → (0 < n → 0 < m) → m ≡ n
one_each m n h k f g = elim (cases_lt 0 m) [
  | inl more ↦ let also = f more in omega arith
  | inr none ↦ elim (cases_lt 0 n) [
    | inl more ↦ let also = g more in omega arith
    | inr also ↦ omega arith
  ]
]
