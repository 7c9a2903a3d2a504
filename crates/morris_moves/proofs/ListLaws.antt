-- Laws of lists that are appended to one another: what they contain, their order, and how long they
-- are.
use Rattle.std.proofs.Common.{◌≡◌, ℕ, ◌*◌, ◌≤◌, Bool, true, false, List, [], ◌∷◌, ◌++◌, length, map, refl, sym, ap, subst, ◌∙◌, inl, inr, ◌⊎◌, arith, length-append}
use Rattle.std.proofs.lemmas.List.Elements.{All-weaker, All-contains, All-contains_itself, Contains-append_left, Contains-append_right, Contains-append_cases, Contains-push, Contains-push_cases}
use Rattle.std.proofs.lemmas.List.Folds.{Any-from_list_any, list_any-from_Any}
use Rattle.std.proofs.lemmas.List.Sums.{AllPass-from_list_all}
use Rattle.std.proofs.lemmas.List.Kept.{AllPairs-cons}
use Rattle.std.proofs.lemmas.List.{append-nil}
use Rattle.std.specs.List.{AllPairs, Contains, flat_map, list_all, list_any}
use Rattle.std.specs.Bool.{⊤}
use Rattle.std.proofs.lemmas.Bool.{both_ways, false_from_ne_true}

-- ---- what a list contains

Contains-none : {X : Type 0} (x : X) → Contains [] x → ⊥
Contains-none x c = omega arith

pub Contains-head : {X : Type 0} (x : X) (xs : List X) → Contains (x ∷ xs) x
Contains-head x xs = Contains-append_left (x ∷ []) xs x (Contains-push [] x)

pub Contains-tail : {X : Type 0} (y : X) (xs : List X) (x : X) → Contains xs x → Contains (y ∷ xs) x
Contains-tail y xs x c = Contains-append_right (y ∷ []) xs x c

pub Contains-cons_cases : {X : Type 0} (y : X) (xs : List X) (x : X) → Contains (y ∷ xs) x → (y ≡ x) ⊎ Contains xs x
Contains-cons_cases y xs x c = elim (Contains-append_cases (y ∷ []) xs x c) [
  | inl here ↦ elim (Contains-push_cases [] y x here) [ inl none ↦ absurd (Contains-none x none) | inr e ↦ inl e ]
  | inr later ↦ inr later
]

pub Contains-map : {X Y : Type 0} (f : X → Y) (xs : List X) (x : X) → Contains xs x → Contains (map f xs) (f x)
Contains-map f [] x c = absurd (Contains-none x c)
Contains-map f (y ∷ xs) x c = elim (Contains-cons_cases y xs x c) [
  | inl e ↦ subst (λ z. Contains (f y ∷ map f xs) z) (ap f e) (Contains-head (f y) (map f xs))
  | inr later ↦ Contains-tail (f y) (map f xs) (f x) (Contains-map f xs x later)
]

pub Contains-map_cases : {X Y : Type 0} (f : X → Y) (xs : List X) (y : Y) → Contains (map f xs) y → (x : X) × Contains xs x × (f x ≡ y)
Contains-map_cases f [] y c = absurd (Contains-none y c)
Contains-map_cases f (x ∷ xs) y c = elim (Contains-cons_cases (f x) (map f xs) y c) [
  | inl e ↦ (x, Contains-head x xs, e)
  | inr later ↦ let r = Contains-map_cases f xs y later in (r.0, Contains-tail x xs r.0 r.1, r.2)
]

pub Contains-flat_map : {X Y : Type 0} (f : X → List Y) (xs : List X) (x : X) (y : Y) → Contains xs x → Contains (f x) y → Contains (flat_map f xs) y
Contains-flat_map f [] x y c d = absurd (Contains-none x c)
Contains-flat_map f (z ∷ xs) x y c d = elim (Contains-cons_cases z xs x c) [
  | inl e ↦ Contains-append_left (f z) (flat_map f xs) y (rw e d)
  | inr later ↦ Contains-append_right (f z) (flat_map f xs) y (Contains-flat_map f xs x y later d)
]

pub Contains-flat_map_cases : {X Y : Type 0} (f : X → List Y) (xs : List X) (y : Y) → Contains (flat_map f xs) y
    → (x : X) × Contains xs x × Contains (f x) y
Contains-flat_map_cases f [] y c = absurd (Contains-none y c)
Contains-flat_map_cases f (x ∷ xs) y c = elim (Contains-append_cases (f x) (flat_map f xs) y c) [
  | inl here ↦ (x, Contains-head x xs, here)
  | inr later ↦ let r = Contains-flat_map_cases f xs y later in (r.0, Contains-tail x xs r.0 r.1, r.2)
]

-- ---- tests of each and of some

pub all_contained : {X : Type 0} (p : X → Bool) (xs : List X) → list_all p xs ≡ true → (x : X) → Contains xs x → p x ≡ true
all_contained p xs h x c = All-contains (λ y. p y ≡ true) xs x (AllPass-from_list_all p xs h) c

pub contained_all : {X : Type 0} (p : X → Bool) (xs : List X) → ((x : X) → Contains xs x → p x ≡ true) → list_all p xs ≡ true
contained_all p [] each = refl
contained_all p (x ∷ xs) each = rw (each x (Contains-head x xs)) (contained_all p xs (λ y c. each y (Contains-tail x xs y c)))

pub any_contained : {X : Type 0} (p : X → Bool) (xs : List X) → list_any p xs ≡ true → (x : X) × Contains xs x × (p x ≡ true)
any_contained p xs h = let r = Any-from_list_any p xs h in (r.1, (r.0, r.2, r.3), r.4)

pub contained_any : {X : Type 0} (p : X → Bool) (xs : List X) (x : X) → Contains xs x → p x ≡ true → list_any p xs ≡ true
contained_any p xs x c holds = list_any-from_Any p xs (c.0, x, c.1, c.2, holds)

pub all_same : {X : Type 0} (p q : X → Bool) (xs : List X) → ((x : X) → p x ≡ q x) → list_all p xs ≡ list_all q xs
all_same p q [] each = refl
all_same p q (x ∷ xs) each = rw (each x, all_same p q xs each) refl

pub any_same : {X : Type 0} (p q : X → Bool) (xs : List X) → ((x : X) → p x ≡ q x) → list_any p xs ≡ list_any q xs
any_same p q [] each = refl
any_same p q (x ∷ xs) each = rw (each x, any_same p q xs each) refl

-- ---- a loop over a list, from which `ys` came so far and `zs` are to come

module _ {X : Type 0} (p : X → Bool) (xs ys : List X) where
  pub all_stopped : (m : X) (zs : List X) → ys ++ (m ∷ zs) ≡ xs → p m ≡ false → list_all p xs ≡ false
  all_stopped m zs e fails = false_from_ne_true _ (λ h. both_ways (p m) fails
      (all_contained p xs h m (subst (λ l. Contains l m) e (Contains-append_right ys (m ∷ zs) m (Contains-head m zs)))))

  pub any_stopped : (m : X) (zs : List X) → ys ++ (m ∷ zs) ≡ xs → p m ≡ true → list_any p xs ≡ true
  any_stopped m zs e holds = contained_any p xs m (subst (λ l. Contains l m) e (Contains-append_right ys (m ∷ zs) m (Contains-head m zs))) holds

  pub all_done : (zs : List X) → ys ++ zs ≡ xs → zs ≡ [] → list_all p ys ≡ true → list_all p xs ≡ true
  all_done zs e none h = subst (λ l. list_all p l ≡ true) (sym (append-nil ys) ∙ ap (λ l. ys ++ l) (sym none) ∙ e) h

  pub any_done : (zs : List X) → ys ++ zs ≡ xs → zs ≡ [] → list_any p ys ≡ false → list_any p xs ≡ false
  any_done zs e none h = subst (λ l. list_any p l ≡ false) (sym (append-nil ys) ∙ ap (λ l. ys ++ l) (sym none) ∙ e) h

-- ---- order

-- each element stands in the relation to all later ones
abbrev pub Ascends : {X : Type 0} → (X → X → Type 0) → List X → Type 0
Ascends R [] = ⊤
Ascends R (x ∷ xs) = ((y : _) → Contains xs y → R x y) × Ascends R xs

pub Ascends-append : {X : Type 0} (R : X → X → Type 0) (xs ys : List X) → Ascends R xs → Ascends R ys
    → ((x y : X) → Contains xs x → Contains ys y → R x y) → Ascends R (xs ++ ys)
Ascends-append R [] ys a b across = b
Ascends-append R (x ∷ xs) ys a b across = (
  (λ y c. elim (Contains-append_cases xs ys y c) [
    | inl here ↦ a.0 y here
    | inr later ↦ across x y (Contains-head x xs) later
  ]),
  Ascends-append R xs ys a.1 b (λ z y c d. across z y (Contains-tail x xs z c) d),
)

pub Ascends-flat_map : {X Y : Type 0} (R : X → X → Type 0) (S : Y → Y → Type 0) (f : X → List Y) (xs : List X) → Ascends R xs
    → ((x : X) → Ascends S (f x)) → ((x z : X) (y w : Y) → R x z → Contains (f x) y → Contains (f z) w → S y w) → Ascends S (flat_map f xs)
Ascends-flat_map R S f [] a each across = a
Ascends-flat_map R S f (x ∷ xs) a each across =
    Ascends-append S (f x) (flat_map f xs) (each x) (Ascends-flat_map R S f xs a.1 each across)
    (λ y w c d. let r = Contains-flat_map_cases f xs w d in across x r.0 y w (a.0 r.0 r.1) c r.2)

pub Ascends-map : {X Y : Type 0} (R : X → X → Type 0) (S : Y → Y → Type 0) (f : X → Y) (xs : List X) → Ascends R xs
    → ((x z : X) → R x z → S (f x) (f z)) → Ascends S (map f xs)
Ascends-map R S f [] a keeps = a
Ascends-map R S f (x ∷ xs) a keeps = (
  (λ y c. let r = Contains-map_cases f xs y c in rw (← r.2) (keeps x r.0 (a.0 r.0 r.1))),
  Ascends-map R S f xs a.1 keeps,
)

pub AllPairs-from_Ascends : {X : Type 0} (R : X → X → Type 0) (xs : List X) → Ascends R xs → AllPairs R xs
AllPairs-from_Ascends R [] a = λ i j d low high. absurd (omega arith)
AllPairs-from_Ascends R (x ∷ xs) a =
    AllPairs-cons R x xs (All-weaker _ (R x) a.0 xs (All-contains_itself xs)) (AllPairs-from_Ascends R xs a.1)

-- ---- length

pub length-flat_map_le : {X Y : Type 0} (f : X → List Y) (n : ℕ) (xs : List X) → ((x : X) → length (f x) ≤ n) → length (flat_map f xs) ≤ length xs * n
length-flat_map_le f n [] each = omega arith
length-flat_map_le f n (x ∷ xs) each = omega (arith, length-append (f x) (flat_map f xs), each x, length-flat_map_le f n xs each)
