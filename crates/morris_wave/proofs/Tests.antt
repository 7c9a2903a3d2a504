-- Tests over the elements of a list, and counts of those that pass.
use Rattle.std.proofs.Common.{◌≡◌, ℕ, suc, ◌+◌, ◌≤◌, Bool, true, false, not, ◌&&◌, ◌||◌, cond, eqb, ltb, List, [], ◌∷◌, ◌++◌, length, refl, sym, ap, ap₂, ◌∙◌, ⊎_elim, arith}
use Rattle.std.specs.List.{list_all, list_any, count_by, All}
use Rattle.std.proofs.lemmas.Bool.{false≢true, and_parts, or_cases, or_left, or_right, or_parts, and_cases, both_ways, cond-true, cond-false}
use Rattle.std.proofs.lemmas.Bool.Decides.{nat_tests}
use Rattle.std.proofs.lemmas.List.Sums.{sum_by-cons}
use Rattle.std.proofs.lemmas.List.Elements.{All-head, All-tail, All-nil, All-cons}

pub at_most_one : (t : Bool) → cond {A = ℕ} t 1 0 ≤ 1
at_most_one t = grind arith

module _ {X : Type 0} (p q : X → Bool) where
  pub all_mono : ((x : X) → p x ≡ true → q x ≡ true) → (xs : List X) → list_all p xs ≡ true → list_all q xs ≡ true
  all_mono gives [] h = refl
  all_mono gives (x ∷ xs) h = grind (arith, gives x, all_mono gives xs)

  pub any_mono : ((x : X) → p x ≡ true → q x ≡ true) → (xs : List X) → list_any p xs ≡ true → list_any q xs ≡ true
  any_mono gives [] h = absurd (false≢true h)
  any_mono gives (x ∷ xs) h =
      ⊎_elim (λ e. or_left (q x) (list_any q xs) (gives x e)) (λ e. or_right (q x) (list_any q xs) (any_mono gives xs e)) (or_cases (p x) (list_any p xs) h)

  -- no element passes both tests
  pub all_any : ((x : X) → p x ≡ true → q x ≡ true → ⊥) → (xs : List X) → list_all p xs ≡ true → list_any q xs ≡ true → ⊥
  all_any clash [] h k = false≢true k
  all_any clash (x ∷ xs) h k =
      let w = and_parts (p x) (list_all p xs) h in
      ⊎_elim (λ e. clash x w.0 e) (λ e. all_any clash xs w.1 e) (or_cases (q x) (list_any q xs) k)

  -- where all pass one test and not all pass the other, some element passes the first alone
  pub all_differ : (xs : List X) → list_all p xs ≡ true → list_all q xs ≡ false → (x : X) × (p x ≡ true) × (q x ≡ false)
  all_differ [] h k = absurd (both_ways true k refl)
  all_differ (x ∷ xs) h k =
      let w = and_parts (p x) (list_all p xs) h in
      ⊎_elim (λ e. (x, w.0, e)) (λ e. all_differ xs w.1 e) (and_cases (q x) (list_all q xs) k)

  pub any_differ : (xs : List X) → list_any p xs ≡ true → list_any q xs ≡ false → (x : X) × (p x ≡ true) × (q x ≡ false)
  any_differ [] h k = absurd (false≢true h)
  any_differ (x ∷ xs) h k =
      let w = or_parts (q x) (list_any q xs) k in
      ⊎_elim (λ e. (x, e, w.0)) (λ e. any_differ xs e w.1) (or_cases (p x) (list_any p xs) h)

  -- two tests that agree at each element of the list
  pub all_same : (xs : List X) → All (λ x. p x ≡ q x) xs → list_all p xs ≡ list_all q xs
  all_same [] h = refl
  all_same (x ∷ xs) h = ap₂ (λ a b. a && b) (All-head (λ y. p y ≡ q y) x xs h) (all_same xs (All-tail (λ y. p y ≡ q y) x xs h))

  pub any_same : (xs : List X) → All (λ x. p x ≡ q x) xs → list_any p xs ≡ list_any q xs
  any_same [] h = refl
  any_same (x ∷ xs) h = ap₂ (λ a b. a || b) (All-head (λ y. p y ≡ q y) x xs h) (any_same xs (All-tail (λ y. p y ≡ q y) x xs h))

-- a test counts 1 or 0
pub one_of : Bool → ℕ
one_of b = cond b 1 0

module _ {X : Type 0} (p : X → Bool) where
  pub count-cons : (x : X) (xs : List X) → count_by p (x ∷ xs) ≡ cond {A = ℕ} (p x) 1 0 + count_by p xs
  count-cons x xs = sum_by-cons (λ y. cond (p y) 1 0) x xs

  pub count_yes : (x : X) (xs : List X) → p x ≡ true → count_by p (x ∷ xs) ≡ 1 + count_by p xs
  count_yes x xs e = count-cons x xs ∙ ap (λ n. n + count_by p xs) (cond-true {A = ℕ} (p x) 1 0 e)

  pub count_all : ((x : X) → p x ≡ true) → (xs : List X) → count_by p xs ≡ length xs
  count_all h [] = refl
  count_all h (x ∷ xs) =
      let e = count_yes x xs (h x) in
      let f = count_all h xs in
      omega arith

  pub count_no : (x : X) (xs : List X) → p x ≡ false → count_by p (x ∷ xs) ≡ count_by p xs
  count_no x xs e =
      let f : count_by p (x ∷ xs) ≡ 0 + count_by p xs = count-cons x xs ∙ ap (λ n. n + count_by p xs) (cond-false {A = ℕ} (p x) 1 0 e) in
      omega arith

  -- some element passes exactly where the count is above 0
  pub some_counted : (xs : List X) → ltb 0 (count_by p xs) ≡ list_any p xs
  some_counted [] = refl
  some_counted (x ∷ xs) = grind (arith, nat_tests, count-cons x xs, some_counted xs)

module _ {X : Type 0} (p q : X → Bool) where
  pub count_same : (xs : List X) → All (λ x. p x ≡ q x) xs → count_by p xs ≡ count_by q xs
  count_same [] h = refl
  count_same (x ∷ xs) h =
      let e : p x ≡ q x = All-head (λ y. p y ≡ q y) x xs h in
      let r = count_same xs (All-tail (λ y. p y ≡ q y) x xs h) in
      count-cons p x xs ∙ (ap₂ (λ b n. cond {A = ℕ} b 1 0 + n) e r ∙ sym (count-cons q x xs))

-- none fails exactly where all pass
pub none_counted : {X : Type 0} (p : X → Bool) (xs : List X) → eqb (count_by (λ x. not (p x)) xs) 0 ≡ list_all p xs
none_counted p [] = refl
none_counted p (x ∷ xs) = grind (arith, nat_tests, count-cons (λ y. not (p y)) x xs, none_counted p xs)

-- an element passes the first test exactly where it passes one of the others, and never both of
-- them
module _ {X : Type 0} (p q r : X → Bool) where
  pub counts_add : (xs : List X) → ((x : X) → cond {A = ℕ} (p x) 1 0 ≡ cond {A = ℕ} (q x) 1 0 + cond {A = ℕ} (r x) 1 0) → count_by p xs ≡ count_by q xs + count_by r xs
  counts_add [] h = refl
  counts_add (x ∷ xs) h =
      let a = count-cons p x xs in
      let b = count-cons q x xs in
      let c = count-cons r x xs in
      let e = h x in
      let f = counts_add xs h in
      omega arith

-- an element passes the first test exactly where it passes one of the others
module _ {X : Type 0} (p q r : X → Bool) where
  pub any_or : (xs : List X) → ((x : X) → p x ≡ (q x || r x)) → list_any p xs ≡ (list_any q xs || list_any r xs)
  any_or [] h = refl
  any_or (x ∷ xs) h = grind (arith, h x, any_or xs h)

-- what is so of each element of two lists end to end is so of those of either
pub All_after : (P : ℕ → Type 0) (xs ys : List ℕ) → All P (xs ++ ys) → All P ys
All_after P [] ys h = h
All_after P (x ∷ xs) ys h = All_after P xs ys (λ k d l. h (suc k) d (omega (arith, l)))

pub All_before : (P : ℕ → Type 0) (xs ys : List ℕ) → All P (xs ++ ys) → All P xs
All_before P [] ys h = All-nil P
All_before P (x ∷ xs) ys h = All-cons P x xs (h 0 x (omega arith)) (All_before P xs ys (λ k d l. h (suc k) d (omega (arith, l))))
