-- What comes due of the exits of a node at a wave.
use Rattle.std.proofs.Common.{◌≡◌, ℕ, suc, ◌+◌, ◌-◌, min, max, Bool, true, false, not, ◌&&◌, ◌||◌, cond, eqb, ltb, List, [], ◌∷◌, Option, Some, None, is_none, refl, sym, ap, ◌∙◌, subst, ⊎_elim, arith}
use Rattle.std.specs.List.{list_all}
use Rattle.std.proofs.lemmas.Bool.{and_parts, and_from, cases_Bool, ne_eqb, cases_lt, le-ltb, ltb-true, not-true, not-false}
use Rattle.std.proofs.lemmas.Bool.Decides.{nat_tests}
use Rattle.morris_wave.specs.declared.graph.Exits.{Exits}
use Rattle.morris_wave.specs.Nets.{Net}
use Rattle.morris_wave.specs.Exits.{is_odd, is_won_code, minimum, maximum, depths, exits_of, exits_lost, exits_won, some_below, none_from, due_of}
use Rattle.morris_wave.specs.Waves.{open_at}
use Rattle.morris_wave.specs.NodeRanges.{due_wave, pending_at}
use Rattle.morris_wave.proofs.ExitTests.{or_false, odd_above, depths_yes, depths_no}

-- the wave at which exits come due, and whether one of them is lost, by parts
ltb-suc : (d n : ℕ) → ltb d (suc n) ≡ (ltb d n || eqb (d + 1) (suc n))
ltb-suc d n = grind (arith, nat_tests)

lost_at : (n : ℕ) (o w : Option ℕ) (d : Bool)
    → some_below (suc n) o ≡ (some_below n o || (not (is_none o) && eqb (elim o [ None ↦ cond d 0 (due_of w) | Some depth ↦ depth + 1 ]) (suc n)))
lost_at n None w d = refl
lost_at n (Some x) w d = ltb-suc x n

won_at : (n : ℕ) (o w : Option ℕ) (d : Bool)
    → (is_none o && (not d && none_from (suc n) w))
    ≡ ((is_none o && (not d && none_from n w)) || (is_none o && eqb (elim o [ None ↦ cond d 0 (due_of w) | Some depth ↦ depth + 1 ]) (suc n)))
won_at n (Some x) w d = refl
won_at n None w true = sym (ne_eqb 0 (suc n) (λ z. omega arith))
won_at n None None false = refl
won_at n None (Some y) false = ltb-suc y n

won_before : (n : ℕ) (o w : Option ℕ) (d : Bool) → is_none o ≡ true → elim o [ None ↦ cond d 0 (due_of w) | Some depth ↦ depth + 1 ] ≡ suc n
    → (is_none o && (not d && none_from n w)) ≡ false
won_before n (Some x) w d e h = refl
won_before n None w true e h = refl
won_before n None None false e h = absurd (omega (arith, h))
won_before n None (Some y) false e h = le-ltb y n (omega (arith, h))

-- a ply more: lost and won by the exits that come due
pub exits_lost_due : (n : ℕ) (e : Exits) → exits_lost (suc n) e ≡ (exits_lost n e || (not (is_none e.least_lost) && eqb (due_wave e) (suc n)))
exits_lost_due n e = lost_at n e.least_lost e.greatest_won e.drawn

pub exits_won_due : (n : ℕ) (e : Exits) → exits_won (suc n) e ≡ (exits_won n e || (is_none e.least_lost && eqb (due_wave e) (suc n)))
exits_won_due n e = won_at n e.least_lost e.greatest_won e.drawn

pub exits_won_before : (n : ℕ) (e : Exits) → is_none e.least_lost ≡ true → due_wave e ≡ suc n → exits_won n e ≡ false
exits_won_before n e none due = won_before n e.least_lost e.greatest_won e.drawn none due

-- the least and the greatest of a list pass a test that each of them passes
abbrev pub pick : (p : ℕ → Bool) → Option ℕ → Bool
pick p None = true
pick p (Some d) = p d

pub all_least : (p : ℕ → Bool) (xs : List ℕ) → list_all p xs ≡ true → pick p (minimum xs) ≡ true
all_least p [] h = refl
all_least p (x ∷ xs) h = let w = and_parts (p x) (list_all p xs) h in at (minimum xs) w.0 (all_least p xs w.1)
  where
    at : (o : Option ℕ) → p x ≡ true → pick p o ≡ true → p (elim o [ None ↦ x | Some y ↦ min x y ]) ≡ true
    at None a b = a
    at (Some y) a b =
        ⊎_elim
        (λ l. let e : x ≡ min x y = omega arith in subst (λ z. p z ≡ true) e a)
        (λ l. let e : y ≡ min x y = omega arith in subst (λ z. p z ≡ true) e b)
        (cases_lt x y)

pub all_greatest : (p : ℕ → Bool) (xs : List ℕ) → list_all p xs ≡ true → pick p (maximum xs) ≡ true
all_greatest p [] h = refl
all_greatest p (x ∷ xs) h = let w = and_parts (p x) (list_all p xs) h in at (maximum xs) w.0 (all_greatest p xs w.1)
  where
    at : (o : Option ℕ) → p x ≡ true → pick p o ≡ true → p (elim o [ None ↦ x | Some y ↦ max x y ]) ≡ true
    at None a b = a
    at (Some y) a b =
        ⊎_elim
        (λ l. let e : y ≡ max x y = omega arith in subst (λ z. p z ≡ true) e b)
        (λ l. let e : x ≡ max x y = omega arith in subst (λ z. p z ≡ true) e a)
        (cases_lt x y)

lost_depths : (cs : List ℕ) → list_all (λ d. is_odd (d + 1)) (depths is_odd cs) ≡ true
lost_depths [] = refl
lost_depths (c ∷ cs) =
    ⊎_elim
    (λ e. let back : c ≡ c - 1 + 1 = omega (arith, odd_above c e) in
    ap (list_all (λ d. is_odd (d + 1))) (depths_yes is_odd c cs e)
    ∙ and_from (is_odd (c - 1 + 1)) (list_all (λ d. is_odd (d + 1)) (depths is_odd cs)) (subst (λ x. is_odd x ≡ true) back e) (lost_depths cs))
    (λ e. ap (list_all (λ d. is_odd (d + 1))) (depths_no is_odd c cs e) ∙ lost_depths cs)
    (cases_Bool (is_odd c))

won_depths : (cs : List ℕ) → list_all (λ d. not (is_odd (d + 1))) (depths is_won_code cs) ≡ true
won_depths [] = refl
won_depths (c ∷ cs) =
    ⊎_elim
    (λ e. let v = and_parts (not (is_odd c)) (ltb 0 c) e in
    let back : c ≡ c - 1 + 1 = omega (arith, ltb-true 0 c v.1) in
    ap (list_all (λ d. not (is_odd (d + 1)))) (depths_yes is_won_code c cs e)
    ∙ and_from (not (is_odd (c - 1 + 1))) (list_all (λ d. not (is_odd (d + 1))) (depths is_won_code cs)) (subst (λ x. not (is_odd x) ≡ true) back v.0) (won_depths cs))
    (λ e. ap (list_all (λ d. not (is_odd (d + 1)))) (depths_no is_won_code c cs e) ∙ won_depths cs)
    (cases_Bool (is_won_code c))

parity_at : (n : ℕ) (o w : Option ℕ) (d : Bool) → pick (λ x. is_odd (x + 1)) o ≡ true → pick (λ x. not (is_odd (x + 1))) w ≡ true
    → elim o [ None ↦ cond d 0 (due_of w) | Some depth ↦ depth + 1 ] ≡ suc n → is_odd (suc n) ≡ not (is_none o)
parity_at n (Some x) w d odd even h = subst (λ y. is_odd y ≡ true) h odd
parity_at n None w true odd even h = absurd (omega (arith, h))
parity_at n None None false odd even h = absurd (omega (arith, h))
parity_at n None (Some y) false odd even h = subst (λ z. is_odd z ≡ false) h (not-true (is_odd (y + 1)) even)

-- exits come due at an odd wave where one of them is lost, otherwise at an even one
pub due_parity : (n : ℕ) (cs : List ℕ) → due_wave (exits_of cs) ≡ suc n → is_odd (suc n) ≡ not (is_none (exits_of cs).least_lost)
due_parity n cs h =
    parity_at n (exits_of cs).least_lost (exits_of cs).greatest_won (exits_of cs).drawn
    (all_least (λ x. is_odd (x + 1)) (depths is_odd cs) (lost_depths cs))
    (all_greatest (λ x. not (is_odd (x + 1))) (depths is_won_code cs) (won_depths cs)) h

-- what comes due at an odd wave is a lost exit
module _ (n : ℕ) (cs : List ℕ) where
  kind : (b : Bool) → is_odd (suc n) ≡ b → (not (is_none (exits_of cs).least_lost) && eqb (due_wave (exits_of cs)) (suc n)) ≡ (b && eqb (due_wave (exits_of cs)) (suc n))
  kind b odd = grind (arith, nat_tests, due_parity n cs)

  other : (b : Bool) → is_odd (suc n) ≡ b → (is_none (exits_of cs).least_lost && eqb (due_wave (exits_of cs)) (suc n)) ≡ (not b && eqb (due_wave (exits_of cs)) (suc n))
  other b odd = grind (arith, nat_tests, due_parity n cs)

  pub odd_lost : is_odd (suc n) ≡ true → exits_lost (suc n) (exits_of cs) ≡ (exits_lost n (exits_of cs) || eqb (due_wave (exits_of cs)) (suc n))
  odd_lost odd = exits_lost_due n (exits_of cs) ∙ ap (λ t. exits_lost n (exits_of cs) || t) (kind true odd)

  pub odd_won : is_odd (suc n) ≡ true → exits_won (suc n) (exits_of cs) ≡ exits_won n (exits_of cs)
  odd_won odd = exits_won_due n (exits_of cs) ∙ (ap (λ t. exits_won n (exits_of cs) || t) (other true odd) ∙ sym (or_false (exits_won n (exits_of cs))))

  pub even_lost : is_odd (suc n) ≡ false → exits_lost (suc n) (exits_of cs) ≡ exits_lost n (exits_of cs)
  even_lost even = exits_lost_due n (exits_of cs) ∙ (ap (λ t. exits_lost n (exits_of cs) || t) (kind false even) ∙ sym (or_false (exits_lost n (exits_of cs))))

  pub even_won : is_odd (suc n) ≡ false → exits_won (suc n) (exits_of cs) ≡ (exits_won n (exits_of cs) || eqb (due_wave (exits_of cs)) (suc n))
  even_won even = exits_won_due n (exits_of cs) ∙ ap (λ t. exits_won n (exits_of cs) || t) (other false even)

  pub even_won_before : is_odd (suc n) ≡ false → due_wave (exits_of cs) ≡ suc n → exits_won n (exits_of cs) ≡ false
  even_won_before even due = exits_won_before n (exits_of cs) (not-false (is_none (exits_of cs).least_lost) (sym (due_parity n cs due) ∙ even)) due

-- a node that waits for nothing is one that is lost, and no other
zero_parts : (c : ℕ) (w : Bool) → eqb (c + cond {A = ℕ} w 0 1) 0 ≡ (eqb c 0 && w)
zero_parts c w = grind (arith, nat_tests)

pub pending_zero : (g : Net) (n : ℕ) (a : ℕ → Bool) (i : ℕ) → eqb (pending_at g n a i) 0 ≡ (eqb (open_at g n a i) 0 && exits_won n (exits_of (g.exits i)))
pending_zero g n a i = zero_parts (open_at g n a i) (exits_won n (exits_of (g.exits i)))
