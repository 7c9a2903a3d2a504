-- Elements of two lists that go together, counted from the one list and from the other.
use Rattle.std.proofs.Common.{◌≡◌, ℕ, ◌+◌, Bool, ◌&&◌, cond, List, [], ◌∷◌, filter, refl, sym, ap, ◌∙◌, inl, inr, arith}
use Rattle.std.specs.List.{Contains, count_by, sum_by, flat_map}
use Rattle.std.proofs.lemmas.Bool.{cases_Bool}
use Rattle.std.proofs.lemmas.List.Sums.{sum_by-append, sum_by-cons}
use Rattle.std.proofs.lemmas.List.Concat.{flat_map-cons}
use Rattle.morris_moves.proofs.ListLaws.{Contains-head, Contains-tail}
use Rattle.morris_wave.proofs.Tests.{count-cons}

module _ {Y : Type 0} where
  sum_none : (ys : List Y) → sum_by (λ y. 0) ys ≡ 0
  sum_none [] = refl
  sum_none (y ∷ ys) = omega (arith, sum_by-cons (λ (z : Y). 0) y ys, sum_none ys)

  sum_more : (q : Y → Bool) (g : Y → ℕ) (ys : List Y) → sum_by (λ y. cond {A = ℕ} (q y) 1 0 + g y) ys ≡ count_by q ys + sum_by g ys
  sum_more q g [] = refl
  sum_more q g (y ∷ ys) =
      omega (arith, sum_by-cons (λ z. cond {A = ℕ} (q z) 1 0 + g z) y ys, count-cons q y ys, sum_by-cons g y ys, sum_more q g ys)

  pub sum_same : (f g : Y → ℕ) (ys : List Y) → ((y : Y) → Contains ys y → f y ≡ g y) → sum_by f ys ≡ sum_by g ys
  sum_same f g [] same = refl
  sum_same f g (y ∷ ys) same = omega (
    arith,
    sum_by-cons f y ys,
    sum_by-cons g y ys,
    same y (Contains-head y ys),
    sum_same f g ys (λ z at. same z (Contains-tail y ys z at)),
  )

  -- a count is the sum of what is counted at each element
  pub count_sum : (p : Y → Bool) (g : Y → ℕ) (ys : List Y) → ((y : Y) → Contains ys y → cond {A = ℕ} (p y) 1 0 ≡ g y) → count_by p ys ≡ sum_by g ys
  count_sum p g [] same = refl
  count_sum p g (y ∷ ys) same = omega (
    arith,
    count-cons p y ys,
    sum_by-cons g y ys,
    same y (Contains-head y ys),
    count_sum p g ys (λ z at. same z (Contains-tail y ys z at)),
  )

  pub count_by-filter : (p q : Y → Bool) (ys : List Y) → count_by q (filter p ys) ≡ count_by (λ y. p y && q y) ys
  count_by-filter p q [] = refl
  count_by-filter p q (y ∷ ys) = elim (cases_Bool (p y)) [
    | inl passes ↦
        let first : filter p (y ∷ ys) ≡ y ∷ filter p ys = rw passes refl in
        let same : cond {A = ℕ} (p y && q y) 1 0 ≡ cond {A = ℕ} (q y) 1 0 = rw passes refl in
        omega (arith, ap (count_by q) first, count-cons q y (filter p ys), count_by-filter p q ys, count-cons (λ z. p z && q z) y ys, same)
    | inr fails ↦
        let first : filter p (y ∷ ys) ≡ filter p ys = rw fails refl in
        let same : cond {A = ℕ} (p y && q y) 1 0 ≡ 0 = rw fails refl in
        omega (arith, ap (count_by q) first, count_by-filter p q ys, count-cons (λ z. p z && q z) y ys, same)
  ]

  pub count_by-flat_map : {X : Type 0} (p : Y → Bool) (f : X → List Y) (xs : List X) → count_by p (flat_map f xs) ≡ sum_by (λ x. count_by p (f x)) xs
  count_by-flat_map p f [] = refl
  count_by-flat_map p f (x ∷ xs) =
      ap (count_by p) (flat_map-cons f x xs)
      ∙ sum_by-append (λ y. cond {A = ℕ} (p y) 1 0) (f x) (flat_map f xs)
      ∙ ap (λ n. count_by p (f x) + n) (count_by-flat_map p f xs)
      ∙ sym (sum_by-cons (λ z. count_by p (f z)) x xs)

-- the pairs that pass a test, counted for each element of the one list, or for each of the other
pub exchange : {X Y : Type 0} (test : X → Y → Bool) (xs : List X) (ys : List Y)
    → sum_by (λ x. count_by (test x) ys) xs ≡ sum_by (λ y. count_by (λ x. test x y) xs) ys
exchange test [] ys = sym (sum_none ys)
exchange test (x ∷ xs) ys =
    sum_by-cons (λ z. count_by (test z) ys) x xs
    ∙ ap (λ n. count_by (test x) ys + n) (exchange test xs ys)
    ∙ sym (sum_more (test x) (λ y. count_by (λ z. test z y) xs) ys)
    ∙ sum_same _ _ ys (λ y at. sym (count-cons (λ z. test z y) x xs))
