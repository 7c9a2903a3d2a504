-- What the summary of a node's exits says of them.
use Rattle.std.proofs.Common.{inl, inr, ◌≡◌, ℕ, zero, suc, ◌-◌, ◌<◌, min, max, Bool, true, false, not, ◌&&◌, ◌||◌, cond, eqb, ltb, leb, List, [], ◌∷◌, Option, Some, None, is_none, map, refl, sym, ap, arith}
use Rattle.std.specs.List.{list_all, list_any, filter}
use Rattle.std.proofs.lemmas.Bool.{false≢true, cases_Bool, and_right, eq-eqb, ne_eqb, cases_lt, lt-ltb, le-ltb}
use Rattle.std.proofs.lemmas.Bool.Decides.{nat_tests}
use Rattle.morris_wave.specs.Exits.{is_odd, is_won_code, minimum, maximum, depths, exits_of, some_below, none_from, exits_lost, exits_won}
use Rattle.morris_wave.specs.Values.{is_lost_exit, is_won_exit}

ltb-min : (n x y : ℕ) → ltb (min x y) n ≡ (ltb x n || ltb y n)
ltb-min n x y = grind (arith, nat_tests)

ltb-max : (n x y : ℕ) → ltb (max x y) n ≡ (ltb x n && ltb y n)
ltb-max n x y = grind (arith, nat_tests)

pub or_false : (b : Bool) → b ≡ (b || false)
or_false b = grind arith

pub and_true : (b : Bool) → b ≡ (b && true)
and_true b = grind arith

some_below-least : (n x : ℕ) (xs : List ℕ) → some_below n (minimum (x ∷ xs)) ≡ (ltb x n || some_below n (minimum xs))
some_below-least n x xs = at (minimum xs)
  where
    at : (o : Option ℕ) → ltb (elim o [ None ↦ x | Some y ↦ min x y ]) n ≡ (ltb x n || some_below n o)
    at None = or_false (ltb x n)
    at (Some y) = ltb-min n x y

none_from-greatest : (n x : ℕ) (xs : List ℕ) → none_from n (maximum (x ∷ xs)) ≡ (ltb x n && none_from n (maximum xs))
none_from-greatest n x xs = at (maximum xs)
  where
    at : (o : Option ℕ) → ltb (elim o [ None ↦ x | Some y ↦ max x y ]) n ≡ (ltb x n && none_from n o)
    at None = and_true (ltb x n)
    at (Some y) = ltb-max n x y

pub depths_yes : (p : ℕ → Bool) (c : ℕ) (cs : List ℕ) → p c ≡ true → depths p (c ∷ cs) ≡ (c - 1) ∷ depths p cs
depths_yes p c cs e = ap (λ b. map (λ x. x - 1) (cond b (c ∷ filter p cs) (filter p cs))) e

pub depths_no : (p : ℕ → Bool) (c : ℕ) (cs : List ℕ) → p c ≡ false → depths p (c ∷ cs) ≡ depths p cs
depths_no p c cs e = ap (λ b. map (λ x. x - 1) (cond b (c ∷ filter p cs) (filter p cs))) e

-- a code above 0 is at most n where its depth is below n
leb-pred : (c n : ℕ) → 0 < c → leb c n ≡ ltb (c - 1) n
leb-pred c n pos = grind (arith, nat_tests)

pub odd_above : (c : ℕ) → is_odd c ≡ true → 0 < c
odd_above zero e = absurd (false≢true e)
odd_above (suc c) e = omega arith

pub some_exit_lost : (n : ℕ) (cs : List ℕ) → list_any (is_lost_exit n) cs ≡ exits_lost n (exits_of cs)
some_exit_lost n [] = refl
some_exit_lost n (c ∷ cs) = elim (cases_Bool (is_odd c)) [
  | inl odd ↦ rw (odd, leb-pred c n (odd_above c odd), some_exit_lost n cs) (sym (some_below-least n (c - 1) (depths is_odd cs)))
  | inr even ↦ rw even (some_exit_lost n cs)
]

shuffle : (a n d w : Bool) → (a && (n && (d && w))) ≡ (n && (d && (a && w)))
shuffle a n d w = grind arith

pub each_exit_won : (n : ℕ) (cs : List ℕ) → list_all (is_won_exit n) cs ≡ exits_won n (exits_of cs)
each_exit_won n [] = refl
each_exit_won n (c ∷ cs) = elim (cases_Bool (is_odd c)) [
  | inl odd ↦ rw odd refl
  | inr even ↦ elim (cases_lt 0 c) [
    | inl above ↦
        rw (even, lt-ltb 0 c above, ne_eqb c 0 (omega arith), leb-pred c n above, each_exit_won n cs, none_from-greatest n (c - 1) (depths is_won_code cs))
        (shuffle (ltb (c - 1) n) (is_none (minimum (depths is_odd cs))) (not (list_any (λ x. eqb x 0) cs)) (none_from n (maximum (depths is_won_code cs))))
    | inr zero_code ↦ rw (even, le-ltb 0 c zero_code, eq-eqb c 0 (omega arith)) (sym (and_right (is_none (minimum (depths is_odd cs))) false refl))
  ]
]
