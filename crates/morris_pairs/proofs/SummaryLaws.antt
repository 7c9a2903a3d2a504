-- The summary of a list of codes says only which codes the list has: neither their order counts,
-- nor how often each is there.
use Rattle.std.proofs.Common.{◌≡◌, ℕ, ◌-◌, ◌≤◌, min, max, Bool, true, List, [], ◌∷◌, Some, None, map, filter, refl, ap, subst, ◌∙◌, sym, inl, inr, eqb, arith}
use Rattle.std.proofs.lemmas.Bool.{cases_lt}
use Rattle.std.specs.List.{Contains, list_any}
use Rattle.morris_board.proofs.PointsLaws.{same_test}
use Rattle.morris_moves.proofs.ListLaws.{Contains-head, Contains-tail, Contains-cons_cases, Contains-map, Contains-map_cases, any_contained, contained_any}
use Rattle.morris_wave.specs.Exits.{exits_of, minimum, maximum, depths, is_odd, is_won_code}
use Rattle.morris_pairs.specs.FilterLaws.{filter-contains, contained-filter}

-- each element of the one list is in the other
abbrev pub IsAmong : {X : Type 0} → List X → List X → Type 0
IsAmong {X} xs ys = (x : X) → Contains xs x → Contains ys x

record IsLeast (xs : List ℕ) (m : ℕ) : Type 0 where
  here : Contains xs m
  low : (x : ℕ) → Contains xs x → m ≤ x

record IsGreatest (xs : List ℕ) (m : ℕ) : Type 0 where
  here : Contains xs m
  high : (x : ℕ) → Contains xs x → x ≤ m

least_is : (x : ℕ) (xs : List ℕ) → (m : ℕ) × (minimum (x ∷ xs) ≡ Some m) × IsLeast (x ∷ xs) m
least_is x [] = (
  x,
  refl,
  record {
    here = Contains-head x [];
    low = λ z c. elim (Contains-cons_cases x [] z c) [ inl e ↦ omega (arith, e) | inr none ↦ omega (arith, none) ];
  },
)
least_is x (y ∷ ys) =
    let rest = least_is y ys in (
      min x rest.0,
      ap (λ o. Some (elim o [ None ↦ x | Some z ↦ min x z ])) rest.1,
      record {
        here = elim (cases_lt x rest.0) [
          | inl l ↦ let e : x ≡ min x rest.0 = omega arith in subst (Contains (x ∷ y ∷ ys)) e (Contains-head x (y ∷ ys))
          | inr g ↦ let e : rest.0 ≡ min x rest.0 = omega arith in subst (Contains (x ∷ y ∷ ys)) e (Contains-tail x (y ∷ ys) rest.0 rest.2.here)
        ];
        low = λ z c. elim (Contains-cons_cases x (y ∷ ys) z c) [ inl e ↦ omega (arith, e) | inr later ↦ omega (arith, rest.2.low z later) ];
      },
    )

greatest_is : (x : ℕ) (xs : List ℕ) → (m : ℕ) × (maximum (x ∷ xs) ≡ Some m) × IsGreatest (x ∷ xs) m
greatest_is x [] = (
  x,
  refl,
  record {
    here = Contains-head x [];
    high = λ z c. elim (Contains-cons_cases x [] z c) [ inl e ↦ omega (arith, e) | inr none ↦ omega (arith, none) ];
  },
)
greatest_is x (y ∷ ys) =
    let rest = greatest_is y ys in (
      max x rest.0,
      ap (λ o. Some (elim o [ None ↦ x | Some z ↦ max x z ])) rest.1,
      record {
        here = elim (cases_lt x rest.0) [
          | inl l ↦ let e : rest.0 ≡ max x rest.0 = omega arith in subst (Contains (x ∷ y ∷ ys)) e (Contains-tail x (y ∷ ys) rest.0 rest.2.here)
          | inr g ↦ let e : x ≡ max x rest.0 = omega arith in subst (Contains (x ∷ y ∷ ys)) e (Contains-head x (y ∷ ys))
        ];
        high = λ z c. elim (Contains-cons_cases x (y ∷ ys) z c) [ inl e ↦ omega (arith, e) | inr later ↦ omega (arith, rest.2.high z later) ];
      },
    )

least_same : (xs ys : List ℕ) → IsAmong xs ys → IsAmong ys xs → minimum xs ≡ minimum ys
least_same [] [] f g = refl
least_same [] (y ∷ ys) f g = absurd (omega (arith, g y (Contains-head y ys)))
least_same (x ∷ xs) [] f g = absurd (omega (arith, f x (Contains-head x xs)))
least_same (x ∷ xs) (y ∷ ys) f g =
    let a = least_is x xs in
    let b = least_is y ys in
    let e : a.0 ≡ b.0 = omega (arith, a.2.low b.0 (g b.0 b.2.here), b.2.low a.0 (f a.0 a.2.here)) in
    a.1 ∙ (ap (λ m. Some m) e ∙ sym b.1)

greatest_same : (xs ys : List ℕ) → IsAmong xs ys → IsAmong ys xs → maximum xs ≡ maximum ys
greatest_same [] [] f g = refl
greatest_same [] (y ∷ ys) f g = absurd (omega (arith, g y (Contains-head y ys)))
greatest_same (x ∷ xs) [] f g = absurd (omega (arith, f x (Contains-head x xs)))
greatest_same (x ∷ xs) (y ∷ ys) f g =
    let a = greatest_is x xs in
    let b = greatest_is y ys in
    let e : a.0 ≡ b.0 = omega (arith, a.2.high b.0 (g b.0 b.2.here), b.2.high a.0 (f a.0 a.2.here)) in
    a.1 ∙ (ap (λ m. Some m) e ∙ sym b.1)

-- what a test leaves of the one is among what it leaves of the other, and their images too
pub passed_among : {X : Type 0} (p : X → Bool) (xs ys : List X) → IsAmong xs ys → IsAmong (filter p xs) (filter p ys)
passed_among p xs ys f x c = let at = filter-contains p xs x c in contained-filter p ys x (f x at.0) at.1

pub images_among : {X Y : Type 0} (h : X → Y) (xs ys : List X) → IsAmong xs ys → IsAmong (map h xs) (map h ys)
images_among h xs ys f y c = let at = Contains-map_cases h xs y c in subst (Contains (map h ys)) at.2 (Contains-map h ys at.0 (f at.0 at.1))

depths_among : (p : ℕ → Bool) (xs ys : List ℕ) → IsAmong xs ys → IsAmong (depths p xs) (depths p ys)
depths_among p xs ys f = images_among (λ c. c - 1) (filter p xs) (filter p ys) (passed_among p xs ys f)

any_among : (p : ℕ → Bool) (xs ys : List ℕ) → IsAmong xs ys → list_any p xs ≡ true → list_any p ys ≡ true
any_among p xs ys f h = let at = any_contained p xs h in contained_any p ys at.0 (f at.0 at.1) at.2

pub exits_of-same : (xs ys : List ℕ) → IsAmong xs ys → IsAmong ys xs → exits_of xs ≡ exits_of ys
exits_of-same xs ys f g =
    let lost : minimum (depths is_odd xs) ≡ minimum (depths is_odd ys) = least_same _ _ (depths_among is_odd xs ys f) (depths_among is_odd ys xs g) in
    let won : maximum (depths is_won_code xs) ≡ maximum (depths is_won_code ys) = greatest_same _ _ (depths_among is_won_code xs ys f) (depths_among is_won_code ys xs g) in
    let drawn : list_any (λ c. eqb c 0) xs ≡ list_any (λ c. eqb c 0) ys = same_test _ _ (any_among (λ c. eqb c 0) xs ys f) (any_among (λ c. eqb c 0) ys xs g) in
    rw (lost, won, drawn) refl
