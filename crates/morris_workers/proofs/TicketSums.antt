-- Sums over lists that change at one place.
use Rattle.std.proofs.Common.{◌≡◌, ℕ, zero, suc, ◌+◌, ◌≤◌, List, [], ◌∷◌, set, sym, refl, ap, subst, ⊎_elim, arith}
use Rattle.std.specs.List.{sum_by}
use Rattle.std.proofs.lemmas.List.Sums.{sum_by-cons}
use mathlib.Core.Option.{some, some-injective, some-ne-none}
use lib.ListN.{get_elem?}
use Rattle.atomic_table.proofs.Lists.{at_set}

module _ {A : Type 0} (f : A → ℕ) where
  pub sum_set : (l : List A) (i : ℕ) (v w : A) → get_elem? l i ≡ some v → sum_by f (set l i w) + f v ≡ sum_by f l + f w
  sum_set [] i v w e = absurd (some-ne-none v (sym e))
  sum_set (x ∷ xs) zero v w e = omega (arith, sum_by-cons f w xs, sum_by-cons f x xs, ap f (some-injective x v e))
  sum_set (x ∷ xs) (suc i) v w e = omega (arith, sum_by-cons f x (set xs i w), sum_by-cons f x xs, sum_set xs i v w e)

  -- one term is at most the sum
  pub sum_part : (l : List A) (i : ℕ) (v : A) → get_elem? l i ≡ some v → f v ≤ sum_by f l
  sum_part [] i v e = absurd (some-ne-none v (sym e))
  sum_part (x ∷ xs) zero v e = omega (arith, sum_by-cons f x xs, ap f (some-injective x v e))
  sum_part (x ∷ xs) (suc i) v e = omega (arith, sum_by-cons f x xs, sum_part xs i v e)

  -- terms that are at most another's
  pub sum_less : (g : A → ℕ) → ((v : A) → f v ≤ g v) → (l : List A) → sum_by f l ≤ sum_by g l
  sum_less g h [] = omega arith
  sum_less g h (x ∷ xs) = omega (arith, sum_by-cons f x xs, sum_by-cons g x xs, h x, sum_less g h xs)

-- where no term of a sum is above 0, none is of another that is 0 wherever the first is
pub sum_none : {A : Type 0} (f g : A → ℕ) (l : List A) → ((i : ℕ) (v : A) → get_elem? l i ≡ some v → f v ≡ 0 → g v ≡ 0) → sum_by f l ≡ 0 → sum_by g l ≡ 0
sum_none f g [] h e = refl
sum_none f g (x ∷ xs) h e =
    omega (arith, sum_by-cons g x xs, h zero x refl (omega (arith, sum_by-cons f x xs)), sum_none f g xs (λ i v k. h (suc i) v k) (omega (arith, sum_by-cons f x xs)))

-- A seat's term is the whole sum where all other terms are 0. `none` is an element whose terms are
-- 0.
pub sum_alone : {A : Type 0} (f g : A → ℕ) (l : List A) (i : ℕ) (v none : A) → get_elem? l i ≡ some v → f none ≡ 0 → g none ≡ 0
    → ((j : ℕ) (w : A) → get_elem? l j ≡ some w → f w ≡ 0 → g w ≡ 0) → sum_by f l ≤ f v → sum_by g l ≡ g v
sum_alone f g l i v none e fn gn h most =
    let rest : sum_by f (set l i none) ≡ 0 = omega (arith, sum_set f l i v none e) in
    let others : sum_by g (set l i none) ≡ 0 = sum_none f g (set l i none) (λ j w k. ⊎_elim (λ t. λ z. subst (λ u. g u ≡ 0) t.1 gn) (λ t. h j w t.1) (at_set l i j none w k)) rest in
    omega (arith, sum_set g l i v none e)
