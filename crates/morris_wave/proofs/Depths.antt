-- Lost and won in fewer than n plies: more plies decide more, no node is both, and each has one
-- depth.
use Rattle.std.proofs.Common.{◌≡◌, ℕ, zero, suc, ◌+◌, ◌-◌, ◌<◌, ◌≤◌, Bool, true, false, not, cond, leb, List, [], ◌∷◌, refl, sym, ap, ◌∙◌, subst, ⊎_elim, arith, add-suc, add-zero}
use Rattle.std.specs.List.{list_all, list_any}
use Rattle.std.proofs.lemmas.Bool.{false≢true, and_parts, or_cases, or_parts, cases_Bool, and_cases, both_ways, cond-true, cond-false, leb-true, false_from_ne_true}
use Rattle.std.proofs.lemmas.Bool.Decides.{nat_tests}
use Rattle.morris_wave.specs.Nets.{Net}
use Rattle.morris_wave.specs.Exits.{is_odd}
use Rattle.morris_wave.specs.Values.{is_lost_before, is_won_before, is_decided, some_lost, all_won, is_lost_exit, is_won_exit, HasDepth, HasCode, code_within}
use Rattle.morris_wave.proofs.Tests.{all_mono, any_mono, all_any, all_differ, any_differ}

lost_exit_more : (n c : ℕ) → is_lost_exit n c ≡ true → is_lost_exit (suc n) c ≡ true
lost_exit_more n c h = grind (arith, nat_tests)

won_exit_more : (n c : ℕ) → is_won_exit n c ≡ true → is_won_exit (suc n) c ≡ true
won_exit_more n c h = grind (arith, nat_tests)

-- an exit isn't lost and won
exits_apart : (n c : ℕ) → is_won_exit n c ≡ true → is_lost_exit n c ≡ true → ⊥
exits_apart n c h k = grind (arith, nat_tests)

-- the next number is odd where this one is even
pub is_odd-suc : (n : ℕ) → is_odd (suc n) ≡ not (is_odd n)
is_odd-suc n = grind (arith, nat_tests)

-- a test of both kinds of result gives more where its two parts do
module _ (g : Net) (i n : ℕ) where
  some_mono : (p q : ℕ → Bool) (m : ℕ) → ((j : ℕ) → p j ≡ true → q j ≡ true) → ((c : ℕ) → is_lost_exit n c ≡ true → is_lost_exit m c ≡ true)
      → some_lost g p n i ≡ true → some_lost g q m i ≡ true
  some_mono p q m f e h = grind (arith, any_mono p q f (g.quiet i), any_mono (is_lost_exit n) (is_lost_exit m) e (g.exits i))

  all_won_mono : (p q : ℕ → Bool) (m : ℕ) → ((j : ℕ) → p j ≡ true → q j ≡ true) → ((c : ℕ) → is_won_exit n c ≡ true → is_won_exit m c ≡ true)
      → all_won g p n i ≡ true → all_won g q m i ≡ true
  all_won_mono p q m f e h = grind (arith, all_mono p q f (g.quiet i), all_mono (is_won_exit n) (is_won_exit m) e (g.exits i))

-- what a later number of plies decides, an earlier one may
pub some_lost_mono : (g : Net) (i n : ℕ) (p q : ℕ → Bool) → ((j : ℕ) → p j ≡ true → q j ≡ true) → some_lost g p n i ≡ true → some_lost g q n i ≡ true
some_lost_mono g i n p q f h = some_mono g i n p q n f (λ c e. e) h

pub all_won_mono_at : (g : Net) (i n : ℕ) (p q : ℕ → Bool) → ((j : ℕ) → p j ≡ true → q j ≡ true) → all_won g p n i ≡ true → all_won g q n i ≡ true
all_won_mono_at g i n p q f h = all_won_mono g i n p q n f (λ c e. e) h

pub some_lost_later : (g : Net) (i n : ℕ) (p q : ℕ → Bool) → ((j : ℕ) → p j ≡ true → q j ≡ true) → some_lost g p n i ≡ true → some_lost g q (suc n) i ≡ true
some_lost_later g i n p q f h = some_mono g i n p q (suc n) f (lost_exit_more n) h

pub all_won_later : (g : Net) (i n : ℕ) (p q : ℕ → Bool) → ((j : ℕ) → p j ≡ true → q j ≡ true) → all_won g p n i ≡ true → all_won g q (suc n) i ≡ true
all_won_later g i n p q f h = all_won_mono g i n p q (suc n) f (won_exit_more n) h

mutual
  unfolding is_lost_before is_won_before

  pub lost_more : (g : Net) (n i : ℕ) → is_lost_before g n i ≡ true → is_lost_before g (suc n) i ≡ true
  lost_more g zero i h = absurd (false≢true h)
  lost_more g (suc n) i h = all_won_later g i n (is_won_before g n) (is_won_before g (suc n)) (won_more g n) h

  pub won_more : (g : Net) (n i : ℕ) → is_won_before g n i ≡ true → is_won_before g (suc n) i ≡ true
  won_more g zero i h = absurd (false≢true h)
  won_more g (suc n) i h = some_lost_later g i n (is_lost_before g n) (is_lost_before g (suc n)) (lost_more g n) h

pub decided_more : (g : Net) (n i : ℕ) → is_decided g n i ≡ true → is_decided g (suc n) i ≡ true
decided_more g n i h = grind (arith, lost_more g n i, won_more g n i)

pub decided_from : (g : Net) (n m i : ℕ) → is_decided g n i ≡ true → is_decided g (n + m) i ≡ true
decided_from g n zero i h = subst (λ x. is_decided g x i ≡ true) (sym (add-zero n)) h
decided_from g n (suc m) i h = subst (λ x. is_decided g x i ≡ true) (sym (add-suc n m)) (decided_more g (n + m) i (decided_from g n m i h))

pub decided_by_then : (g : Net) (n m i : ℕ) → n ≤ m → is_decided g n i ≡ true → is_decided g m i ≡ true
decided_by_then g n m i le h =
    let e : n + (m - n) ≡ m = omega arith in
    subst (λ x. is_decided g x i ≡ true) e (decided_from g n (m - n) i h)

pub apart : (g : Net) (n i : ℕ) → is_lost_before g n i ≡ true → is_won_before g n i ≡ true → ⊥
unfolding is_lost_before is_won_before
apart g zero i h k = false≢true h
apart g (suc n) i h k =
    let w = and_parts (list_all (is_won_before g n) (g.quiet i)) (list_all (is_won_exit n) (g.exits i)) h in
    ⊎_elim
    (λ a. all_any (is_won_before g n) (is_lost_before g n) (λ j x y. apart g n j y x) (g.quiet i) w.0 a)
    (λ a. all_any (is_won_exit n) (is_lost_exit n) (exits_apart n) (g.exits i) w.1 a)
    (or_cases (list_any (is_lost_before g n) (g.quiet i)) (list_any (is_lost_exit n) (g.exits i)) k)

-- an exit that comes due at n has the code suc n
won_exit_new : (n c : ℕ) → is_won_exit (suc n) c ≡ true → is_won_exit n c ≡ false → is_odd (suc n) ≡ false
won_exit_new n c h k = grind (arith, nat_tests)

lost_exit_new : (n c : ℕ) → is_lost_exit (suc n) c ≡ true → is_lost_exit n c ≡ false → is_odd (suc n) ≡ true
lost_exit_new n c h k = grind (arith, nat_tests)

-- no exit is lost in fewer than 0 plies
pub no_lost_exit : (cs : List ℕ) → list_any (is_lost_exit 0) cs ≡ true → ⊥
no_lost_exit [] h = false≢true h
no_lost_exit (c ∷ cs) h =
    ⊎_elim
    (λ a. let w = and_parts (is_odd c) (leb c 0) a in
    let z : c ≡ 0 = omega (arith, leb-true c 0 w.1) in
    false≢true (subst (λ x. is_odd x ≡ true) z w.0))
    (no_lost_exit cs)
    (or_cases (is_lost_exit 0 c) (list_any (is_lost_exit 0) cs) h)

pub nothing_lost : (js : List ℕ) → list_any (λ (j : ℕ). false) js ≡ true → ⊥
nothing_lost [] e = false≢true e
nothing_lost (j ∷ js) e = nothing_lost js e

-- lost codes are odd and won codes are even
mutual
  unfolding is_lost_before is_won_before

  pub lost_parity : (g : Net) (n i : ℕ) → is_lost_before g (suc n) i ≡ true → is_lost_before g n i ≡ false → is_odd (suc n) ≡ true
  lost_parity g zero i h k = refl
  lost_parity g (suc n) i h k =
      let w = and_parts (list_all (is_won_before g (suc n)) (g.quiet i)) (list_all (is_won_exit (suc n)) (g.exits i)) h in
      ⊎_elim
      (λ a. let d = all_differ (is_won_before g (suc n)) (is_won_before g n) (g.quiet i) w.0 a in
      is_odd-suc (suc n) ∙ ap not (won_parity g n d.0 d.1 d.2))
      (λ a. let d = all_differ (is_won_exit (suc n)) (is_won_exit n) (g.exits i) w.1 a in
      is_odd-suc (suc n) ∙ ap not (won_exit_new n d.0 d.1 d.2))
      (and_cases (list_all (is_won_before g n) (g.quiet i)) (list_all (is_won_exit n) (g.exits i)) k)

  pub won_parity : (g : Net) (n i : ℕ) → is_won_before g (suc n) i ≡ true → is_won_before g n i ≡ false → is_odd (suc n) ≡ false
  won_parity g zero i h k =
      ⊎_elim
      (λ a. absurd (nothing_lost (g.quiet i) a))
      (λ a. absurd (no_lost_exit (g.exits i) a))
      (or_cases (list_any (is_lost_before g zero) (g.quiet i)) (list_any (is_lost_exit 0) (g.exits i)) h)
  won_parity g (suc n) i h k =
      let w = or_parts (list_any (is_lost_before g n) (g.quiet i)) (list_any (is_lost_exit n) (g.exits i)) k in
      ⊎_elim
      (λ a. let d = any_differ (is_lost_before g (suc n)) (is_lost_before g n) (g.quiet i) a w.0 in
      is_odd-suc (suc n) ∙ ap not (lost_parity g n d.0 d.1 d.2))
      (λ a. let d = any_differ (is_lost_exit (suc n)) (is_lost_exit n) (g.exits i) a w.1 in
      is_odd-suc (suc n) ∙ ap not (lost_exit_new n d.0 d.1 d.2))
      (or_cases (list_any (is_lost_before g (suc n)) (g.quiet i)) (list_any (is_lost_exit (suc n)) (g.exits i)) h)

-- `code_within` from one number of plies to the next
pub code_kept : (g : Net) (n i : ℕ) → is_decided g n i ≡ true → code_within g (suc n) i ≡ code_within g n i
unfolding code_within
code_kept g n i h = cond-true (is_decided g n i) (code_within g n i) (cond (is_decided g (suc n) i) (suc n) 0) h

pub code_new : (g : Net) (n i : ℕ) → is_decided g n i ≡ false → is_decided g (suc n) i ≡ true → code_within g (suc n) i ≡ suc n
unfolding code_within
code_new g n i h k =
    cond-false (is_decided g n i) (code_within g n i) (cond (is_decided g (suc n) i) (suc n) 0) h
    ∙ cond-true {A = ℕ} (is_decided g (suc n) i) (suc n) 0 k

pub code_open : (g : Net) (n i : ℕ) → is_decided g n i ≡ false → code_within g n i ≡ 0
unfolding code_within
code_open g zero i h = refl
code_open g (suc n) i h =
    let before : is_decided g n i ≡ false = false_from_ne_true (is_decided g n i) (λ e. both_ways (is_decided g (suc n) i) h (decided_more g n i e)) in
    cond-false (is_decided g n i) (code_within g n i) (cond (is_decided g (suc n) i) (suc n) 0) before
    ∙ cond-false {A = ℕ} (is_decided g (suc n) i) (suc n) 0 h

-- nothing is decided in fewer than 0 plies
pub none_decided : (g : Net) (i : ℕ) → is_decided g 0 i ≡ false
unfolding is_lost_before is_won_before
none_decided g i = refl

-- a code that is decided is the code, at most n
pub code_is : (g : Net) (n i : ℕ) → is_decided g n i ≡ true → (0 < code_within g n i) × (code_within g n i ≤ n) × HasCode g i (code_within g n i)
code_is g zero i h = absurd (both_ways (is_decided g zero i) (none_decided g i) h)
code_is g (suc n) i h =
    ⊎_elim
    (λ e. let w = code_is g n i e in
    let k = code_kept g n i e in
    (omega (arith, k, w.0), omega (arith, k, w.1), subst (HasCode g i) (sym k) w.2))
    (λ e. let k = code_new g n i e h in
    let d : HasDepth g i n = record { reached = h; not_before = e } in
    (omega arith, omega arith, subst (HasCode g i) (sym k) d))
    (cases_Bool (is_decided g n i))
