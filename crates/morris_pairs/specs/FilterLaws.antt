-- Laws of lists that a test filters: concatenations of lists, the one number of a range that
-- passes, and a list in two parts.
use Rattle.std.proofs.Common.{◌≡◌, ℕ, zero, suc, ◌+◌, ◌<◌, ◌≤◌, Bool, true, false, not, ◌&&◌, ◌||◌, List, [], ◌∷◌, ◌++◌, append-nil, map, filter, length, refl, ap, subst, ◌∙◌, inl, inr, arith}
use Rattle.std.proofs.lemmas.Bool.{cases_Bool, cases_eq}
use Rattle.std.proofs.lemmas.List.Elements.{filter-append, filter_passes, All-contains, All-contains_itself, All-weaker}
use Rattle.std.specs.List.{All, Contains, flat_map, list_all, list_any, range_with_len}
use Rattle.morris_moves.proofs.ListLaws.{Contains-head, Contains-tail, Contains-cons_cases}

-- ---- concatenations of lists

module _ {X Y : Type 0} where
  pub filter-flat_map : (p : Y → Bool) (f : X → List Y) (xs : List X) → filter p (flat_map f xs) ≡ flat_map (λ x. filter p (f x)) xs
  filter-flat_map p f [] = refl
  filter-flat_map p f (x ∷ xs) = filter-append p (f x) (flat_map f xs) ∙ ap (λ t. filter p (f x) ++ t) (filter-flat_map p f xs)

  -- a map, one element at a time
  pub filter-map : (p : Y → Bool) (f : X → Y) (xs : List X) → filter p (map f xs) ≡ flat_map (λ x. filter p (f x ∷ [])) xs
  filter-map p f [] = refl
  filter-map p f (x ∷ xs) = filter-append p (f x ∷ []) (map f xs) ∙ ap (λ t. filter p (f x ∷ []) ++ t) (filter-map p f xs)

  pub flat_map-one : (f : X → List Y) (x : X) → flat_map f (x ∷ []) ≡ f x
  flat_map-one f x = append-nil (f x)

pub filter-yes : {X : Type 0} (p : X → Bool) (x : X) → p x ≡ true → filter p (x ∷ []) ≡ x ∷ []
filter-yes p x h = rw h refl

pub filter-no : {X : Type 0} (p : X → Bool) (x : X) → p x ≡ false → filter p (x ∷ []) ≡ []
filter-no p x h = rw h refl

-- ---- ranges

pub range_bounds : (a n p : ℕ) → Contains (range_with_len a n) p → (a ≤ p) × (p < a + n)
range_bounds a zero p c = absurd (omega arith)
range_bounds a (suc n) p c = elim (Contains-cons_cases a (range_with_len (a + 1) n) p c) [
  | inl e ↦ (omega arith, omega arith)
  | inr later ↦ let r = range_bounds (a + 1) n p later in (omega arith, omega arith)
]

module _ {Y : Type 0} (f : ℕ → List Y) where
  pub range_none : (a n : ℕ) → ((j : ℕ) → a ≤ j → j < a + n → f j ≡ []) → flat_map f (range_with_len a n) ≡ []
  range_none a zero none = refl
  range_none a (suc n) none = rw (none a (omega arith) (omega arith)) (range_none (a + 1) n (λ j low high. none j (omega arith) (omega arith)))

  -- a concatenation over a range where all but one number give nothing
  pub range_one : (a n k : ℕ) → a ≤ k → k < a + n
      → ((j : ℕ) → a ≤ j → j < a + n → (j ≡ k → ⊥) → f j ≡ []) → flat_map f (range_with_len a n) ≡ f k
  range_one a zero k low high none = absurd (omega arith)
  range_one a (suc n) k low high none = elim (cases_eq a k) [
    | inl e ↦
        ap (λ t. f a ++ t) (range_none (a + 1) n (λ j l h. none j (omega arith) (omega arith) (λ z. omega arith)))
        ∙ append-nil (f a) ∙ ap f e
    | inr differ ↦
        ap (λ t. t ++ flat_map f (range_with_len (a + 1) n)) (none a (omega arith) (omega arith) differ)
        ∙ range_one (a + 1) n k (omega arith) (omega arith) (λ j l h d. none j (omega arith) (omega arith) d)
  ]

-- ---- the elements of a list that pass a test

module _ {X : Type 0} (p : X → Bool) where
  pub filter-contains : (xs : List X) (x : X) → Contains (filter p xs) x → Contains xs x × (p x ≡ true)
  filter-contains xs x c = (inside xs c, All-contains (λ y. p y ≡ true) (filter p xs) x (filter_passes p xs) c)
    where
      inside : (xs : List X) → Contains (filter p xs) x → Contains xs x
      inside [] d = d
      inside (y ∷ xs) d = elim (cases_Bool (p y)) [
        | inl holds ↦ elim (Contains-cons_cases y (filter p xs) x (rw holds at d)) [
          | inl e ↦ subst (λ z. Contains (y ∷ xs) z) e (Contains-head y xs)
          | inr later ↦ Contains-tail y xs x (inside xs later)
        ]
        | inr fails ↦ Contains-tail y xs x (inside xs (rw fails at d))
      ]

  pub contained-filter : (xs : List X) (x : X) → Contains xs x → p x ≡ true → Contains (filter p xs) x
  contained-filter [] x c h = c
  contained-filter (y ∷ xs) x c h = elim (Contains-cons_cases y xs x c) [
    | inl e ↦ let here : p y ≡ true = rw e h in subst (Contains (filter p (y ∷ xs))) e (rw here (Contains-head y (filter p xs)))
    | inr later ↦ elim (cases_Bool (p y)) [
      | inl holds ↦ rw holds (Contains-tail y (filter p xs) x (contained-filter xs x later h))
      | inr fails ↦ rw fails (contained-filter xs x later h)
    ]
  ]

  pub length-filter_le : (xs : List X) → length (filter p xs) ≤ length xs
  length-filter_le [] = omega arith
  length-filter_le (x ∷ xs) = elim (cases_Bool (p x)) [
    | inl holds ↦ rw holds (omega (arith, length-filter_le xs))
    | inr fails ↦ rw fails (omega (arith, length-filter_le xs))
  ]

pub list_any-map : {X Y : Type 0} (p : Y → Bool) (f : X → Y) (xs : List X) → list_any p (map f xs) ≡ list_any (λ x. p (f x)) xs
list_any-map p f [] = refl
list_any-map p f (x ∷ xs) = ap (λ b. p (f x) || b) (list_any-map p f xs)

pub All-from_contained : {X : Type 0} (P : X → Type 0) (xs : List X) → ((x : X) → Contains xs x → P x) → All P xs
All-from_contained P xs each = All-weaker _ P each xs (All-contains_itself xs)

-- ---- a test of the whole list, by a test of what passes p and one of the rest

and_later : (a b c : Bool) → (a && (b && c)) ≡ (b && (a && c))
and_later true b c = refl
and_later false true c = refl
and_later false false c = refl

or_later : (a b c : Bool) → (a || (b || c)) ≡ (b || (a || c))
or_later false b c = refl
or_later true true c = refl
or_later true false c = refl

module _ {X : Type 0} (p whole yes_part no_part : X → Bool) where
  pub all_parts : (xs : List X) → ((x : X) → Contains xs x → p x ≡ true → yes_part x ≡ whole x)
      → ((x : X) → Contains xs x → p x ≡ false → no_part x ≡ whole x)
      → (list_all yes_part (filter p xs) && list_all no_part (filter (λ x. not (p x)) xs)) ≡ list_all whole xs
  all_parts [] f g = refl
  all_parts (x ∷ xs) f g =
      let rest = all_parts xs (λ y c h. f y (Contains-tail x xs y c) h) (λ y c h. g y (Contains-tail x xs y c) h) in
      elim (cases_Bool (p x)) [
        | inl holds ↦ rw (holds, f x (Contains-head x xs) holds) (and_assoc (whole x) _ _ ∙ ap (λ t. whole x && t) rest)
        | inr fails ↦
            rw (fails, g x (Contains-head x xs) fails)
            (and_later (list_all yes_part (filter p xs)) (whole x) (list_all no_part (filter (λ x. not (p x)) xs)) ∙ ap (λ t. whole x && t) rest)
      ]
    where
      and_assoc : (a b c : Bool) → ((a && b) && c) ≡ (a && (b && c))
      and_assoc true b c = refl
      and_assoc false b c = refl

  pub any_parts : (xs : List X) → ((x : X) → Contains xs x → p x ≡ true → yes_part x ≡ whole x)
      → ((x : X) → Contains xs x → p x ≡ false → no_part x ≡ whole x)
      → (list_any yes_part (filter p xs) || list_any no_part (filter (λ x. not (p x)) xs)) ≡ list_any whole xs
  any_parts [] f g = refl
  any_parts (x ∷ xs) f g =
      let rest = any_parts xs (λ y c h. f y (Contains-tail x xs y c) h) (λ y c h. g y (Contains-tail x xs y c) h) in
      elim (cases_Bool (p x)) [
        | inl holds ↦ rw (holds, f x (Contains-head x xs) holds) (or_assoc (whole x) _ _ ∙ ap (λ t. whole x || t) rest)
        | inr fails ↦
            rw (fails, g x (Contains-head x xs) fails)
            (or_later (list_any yes_part (filter p xs)) (whole x) (list_any no_part (filter (λ x. not (p x)) xs)) ∙ ap (λ t. whole x || t) rest)
      ]
    where
      or_assoc : (a b c : Bool) → ((a || b) || c) ≡ (a || (b || c))
      or_assoc true b c = refl
      or_assoc false b c = refl
