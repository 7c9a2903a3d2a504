-- Laws of lists that are filtered, mapped and concatenated.
use Rattle.std.proofs.Common.{◌≡◌, ℕ, zero, suc, ◌+◌, ◌<◌, ◌≤◌, Bool, true, false, cond, List, [], ◌∷◌, ◌++◌, map, filter, refl, sym, ap, ap₂, ◌∙◌, inl, inr, arith}
use Rattle.std.proofs.lemmas.Bool.{cases_Bool}
use Rattle.std.proofs.lemmas.Grind.{flat_map-append}
use Rattle.std.specs.List.{Contains, range_with_len, flat_map}
use Rattle.morris_moves.proofs.ListLaws.{Contains-head, Contains-tail}

module _ {X Y : Type 0} where
  pub flat_map-filter : (f : X → List Y) (p : X → Bool) (xs : List X) → flat_map f (filter p xs) ≡ flat_map (λ x. cond {A = List Y} (p x) (f x) []) xs
  flat_map-filter f p [] = refl
  flat_map-filter f p (x ∷ xs) = elim (cases_Bool (p x)) [
    | inl passes ↦ rw passes (ap (λ t. f x ++ t) (flat_map-filter f p xs))
    | inr fails ↦ rw fails (flat_map-filter f p xs)
  ]

  pub flat_map-contained : (f g : X → List Y) (xs : List X) → ((x : X) → Contains xs x → f x ≡ g x) → flat_map f xs ≡ flat_map g xs
  flat_map-contained f g [] same = refl
  flat_map-contained f g (x ∷ xs) same =
      ap₂ (λ a b. a ++ b) (same x (Contains-head x xs)) (flat_map-contained f g xs (λ z at. same z (Contains-tail x xs z at)))

  pub flat_map-twice : {Z : Type 0} (h : Y → List Z) (f : X → List Y) (xs : List X) → flat_map h (flat_map f xs) ≡ flat_map (λ x. flat_map h (f x)) xs
  flat_map-twice h f [] = refl
  flat_map-twice h f (x ∷ xs) = flat_map-append h (f x) (flat_map f xs) ∙ ap (λ t. flat_map h (f x) ++ t) (flat_map-twice h f xs)

  -- what goes through the joins of lists
  pub through_joins : {Z : Type 0} (h : List Y → List Z) → h [] ≡ [] → ((xs ys : List Y) → h (xs ++ ys) ≡ h xs ++ h ys)
      → (f : X → List Y) (xs : List X) → h (flat_map f xs) ≡ flat_map (λ x. h (f x)) xs
  through_joins h none joins f [] = none
  through_joins h none joins f (x ∷ xs) = joins (f x) (flat_map f xs) ∙ ap (λ t. h (f x) ++ t) (through_joins h none joins f xs)

pub flat_map-mapped : {X Y Z : Type 0} (h : Y → List Z) (f : X → Y) (xs : List X) → flat_map h (map f xs) ≡ flat_map (λ x. h (f x)) xs
flat_map-mapped h f [] = refl
flat_map-mapped h f (x ∷ xs) = ap (λ t. h (f x) ++ t) (flat_map-mapped h f xs)

pub filter-mapped : {X : Type 0} (p : X → Bool) (f : ℕ → X) (ks : List ℕ) → filter p (map f ks) ≡ map f (filter (λ k. p (f k)) ks)
filter-mapped p f [] = refl
filter-mapped p f (k ∷ ks) = elim (cases_Bool (p (f k))) [
  | inl passes ↦ rw passes (ap (λ xs. f k ∷ xs) (filter-mapped p f ks))
  | inr fails ↦ rw fails (filter-mapped p f ks)
]

pub map-mapped : {X Y Z : Type 0} (g : Y → Z) (f : X → Y) (xs : List X) → map g (map f xs) ≡ map (λ x. g (f x)) xs
map-mapped g f [] = refl
map-mapped g f (x ∷ xs) = ap (λ t. g (f x) ∷ t) (map-mapped g f xs)

range_same : {Y : Type 0} (f g : ℕ → List Y) (a n : ℕ) → ((k : ℕ) → a ≤ k → k < a + n → f k ≡ g k) → flat_map f (range_with_len a n) ≡ flat_map g (range_with_len a n)
range_same f g a zero same = refl
range_same f g a (suc n) same =
    ap₂ (λ s t. s ++ t) (same a (omega arith) (omega arith)) (range_same f g (a + 1) n (λ k low high. same k (omega arith) (omega arith)))

-- two concatenations of lists of the numbers below n that pass a test: they are the same if they
-- are so at each number, where one that fails stands for none
pub same_joins : {Y : Type 0} (p q : ℕ → Bool) (f g : ℕ → List Y) (n : ℕ)
    → ((k : ℕ) → k < n → cond {A = List Y} (p k) (f k) [] ≡ cond {A = List Y} (q k) (g k) [])
    → flat_map f (filter p (range_with_len 0 n)) ≡ flat_map g (filter q (range_with_len 0 n))
same_joins {Y} p q f g n same =
    flat_map-filter f p (range_with_len 0 n)
    ∙ range_same (λ k. cond {A = List Y} (p k) (f k) []) (λ k. cond {A = List Y} (q k) (g k) []) 0 n (λ k from_zero low. same k (omega arith))
    ∙ sym (flat_map-filter g q (range_with_len 0 n))

pub filter-none : (p : ℕ → Bool) (a n : ℕ) → ((k : ℕ) → p k ≡ false) → filter p (range_with_len a n) ≡ []
filter-none p a zero fails = refl
filter-none p a (suc n) fails = rw (fails a) (filter-none p (a + 1) n fails)

pub filter-same : (p q : ℕ → Bool) (a n : ℕ) → ((k : ℕ) → a ≤ k → k < a + n → p k ≡ q k) → filter p (range_with_len a n) ≡ filter q (range_with_len a n)
filter-same p q a zero same = refl
filter-same p q a (suc n) same =
    rw (same a (omega arith) (omega arith), filter-same p q (a + 1) n (λ k low high. same k (omega arith) (omega arith))) refl

pub filter-const : {X : Type 0} (b : Bool) (xs : List X) → filter (λ x. b) xs ≡ cond {A = List X} b xs []
filter-const true [] = refl
filter-const true (x ∷ xs) = ap (λ t. x ∷ t) (filter-const true xs)
filter-const false [] = refl
filter-const false (x ∷ xs) = filter-const false xs

pub map-cond : {X Y : Type 0} (f : X → Y) (b : Bool) (xs : List X) → map f (cond {A = List X} b xs []) ≡ cond {A = List Y} b (map f xs) []
map-cond f true xs = refl
map-cond f false xs = refl

pub same_where : {Y : Type 0} (b : Bool) (xs ys : List Y) → (b ≡ true → xs ≡ ys) → cond {A = List Y} b xs [] ≡ cond {A = List Y} b ys []
same_where true xs ys same = same refl
same_where false xs ys same = refl
