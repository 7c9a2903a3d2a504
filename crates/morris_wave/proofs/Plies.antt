-- Lost and won in fewer than n + 1 plies is lost and won within n, as the rules of the game count.
use Rattle.std.proofs.Common.{◌≡◌, ℕ, zero, suc, ◌-◌, ◌<◌, ◌%◌, Bool, true, false, not, ltb, leb, List, [], ◌∷◌, get_or, refl, sym, subst, ⊎_elim, inl, inr, ◌⊎◌, ◌↔◌, arith, add-one}
use Rattle.std.specs.List.{list_all, list_any, Any}
use Rattle.std.proofs.lemmas.Bool.{false≢true, and_parts, and_from, or_cases, or_left, or_right, leb-true, eqb-true, eqb-false, ltb-true, not-true, both_ways, or_parts}
use Rattle.std.proofs.lemmas.Bool.Decides.{nat_tests}
use Rattle.std.proofs.lemmas.List.Sums.{AllPass-from_list_all, list_all-from_AllPass}
use Rattle.std.proofs.lemmas.List.Folds.{Any-from_list_any, list_any-from_Any}
use Rattle.morris_wave.specs.Nets.{Net}
use Rattle.morris_wave.specs.Exits.{is_odd, is_won_code}
use Rattle.morris_wave.specs.Values.{is_lost_before, is_won_before, some_lost, all_won, is_lost_exit, is_won_exit, LostWithin, WonWithin, IsExitLost, IsExitWon, HasNoResult, EveryResultWon, SomeResultLost, PlyRules, is_decided, HasDepth, CodeRules}
use Rattle.morris_wave.proofs.Depths.{no_lost_exit, nothing_lost, lost_parity, won_parity, is_odd-suc, apart, decided_by_then}

exit_won : (m c : ℕ) → is_won_exit (suc m) c ≡ true → IsExitWon m c
exit_won m c h =
    let w = and_parts (is_won_code c) (leb c (suc m)) h in
    let v = and_parts (not (is_odd c)) (ltb 0 c) w.0 in
    let even = eqb-false (c % 2) 1 (not-true (is_odd c) v.0) in
    (omega (arith, even), ltb-true 0 c v.1, omega (arith, leb-true c (suc m) w.1))

exit_won_back : (m c : ℕ) → IsExitWon m c → is_won_exit (suc m) c ≡ true
exit_won_back m c h = grind (arith, nat_tests, h.0, h.1, h.2)

exit_lost : (m c : ℕ) → is_lost_exit (suc m) c ≡ true → IsExitLost m c
exit_lost m c h =
    let w = and_parts (is_odd c) (leb c (suc m)) h in
    (eqb-true (c % 2) 1 w.0, omega (arith, leb-true c (suc m) w.1))

exit_lost_back : (m c : ℕ) → IsExitLost m c → is_lost_exit (suc m) c ≡ true
exit_lost_back m c h = grind (arith, nat_tests, h.0, h.1)

any_weaker : (P Q : ℕ → Type 0) (xs : List ℕ) → ((x : ℕ) → P x → Q x) → Any P xs → Any Q xs
any_weaker P Q xs f (k, x, l, e, p) = (k, x, l, e, f x p)

-- the same number in the two counts
won_within : (g : Net) (m j : ℕ) → is_won_before g (suc m) j ≡ true → WonWithin g m j
won_within g m j h = rw add-one h

won_within_back : (g : Net) (m j : ℕ) → WonWithin g m j → is_won_before g (suc m) j ≡ true
won_within_back g m j h = rw add-one at h

lost_within : (g : Net) (m j : ℕ) → is_lost_before g (suc m) j ≡ true → LostWithin g m j
lost_within g m j h = rw add-one h

lost_within_back : (g : Net) (m j : ℕ) → LostWithin g m j → is_lost_before g (suc m) j ≡ true
lost_within_back g m j h = rw add-one at h

-- every result is won within m, by the tests
module _ (g : Net) (m i : ℕ) where
  every_won : all_won g (is_won_before g (suc m)) (suc m) i ≡ true → EveryResultWon g m i
  every_won h =
      let w = and_parts (list_all (is_won_before g (suc m)) (g.quiet i)) (list_all (is_won_exit (suc m)) (g.exits i)) h in
      let quiet = AllPass-from_list_all (is_won_before g (suc m)) (g.quiet i) w.0 in
      let exits = AllPass-from_list_all (is_won_exit (suc m)) (g.exits i) w.1 in
      ((λ k d l. won_within g m (get_or (g.quiet i) k d) (quiet k d l)), (λ k d l. exit_won m (get_or (g.exits i) k d) (exits k d l)))

  every_won_back : EveryResultWon g m i → all_won g (is_won_before g (suc m)) (suc m) i ≡ true
  every_won_back h =
      and_from (list_all (is_won_before g (suc m)) (g.quiet i)) (list_all (is_won_exit (suc m)) (g.exits i))
      (list_all-from_AllPass (is_won_before g (suc m)) (g.quiet i) (λ k d l. won_within_back g m (get_or (g.quiet i) k d) (h.0 k d l)))
      (list_all-from_AllPass (is_won_exit (suc m)) (g.exits i) (λ k d l. exit_won_back m (get_or (g.exits i) k d) (h.1 k d l)))

  some_is_lost : some_lost g (is_lost_before g (suc m)) (suc m) i ≡ true → SomeResultLost g m i
  some_is_lost h =
      ⊎_elim
      (λ e. inl (any_weaker (λ j. is_lost_before g (suc m) j ≡ true) (LostWithin g m) (g.quiet i) (lost_within g m) (Any-from_list_any (is_lost_before g (suc m)) (g.quiet i) e)))
      (λ e. inr (any_weaker (λ c. is_lost_exit (suc m) c ≡ true) (IsExitLost m) (g.exits i) (exit_lost m) (Any-from_list_any (is_lost_exit (suc m)) (g.exits i) e)))
      (or_cases (list_any (is_lost_before g (suc m)) (g.quiet i)) (list_any (is_lost_exit (suc m)) (g.exits i)) h)

  some_is_lost_back : SomeResultLost g m i → some_lost g (is_lost_before g (suc m)) (suc m) i ≡ true
  some_is_lost_back h =
      ⊎_elim
      (λ e. or_left (list_any (is_lost_before g (suc m)) (g.quiet i)) (list_any (is_lost_exit (suc m)) (g.exits i))
      (list_any-from_Any (is_lost_before g (suc m)) (g.quiet i) (any_weaker (LostWithin g m) (λ j. is_lost_before g (suc m) j ≡ true) (g.quiet i) (lost_within_back g m) e)))
      (λ e. or_right (list_any (is_lost_before g (suc m)) (g.quiet i)) (list_any (is_lost_exit (suc m)) (g.exits i))
      (list_any-from_Any (is_lost_exit (suc m)) (g.exits i) (any_weaker (IsExitLost m) (λ c. is_lost_exit (suc m) c ≡ true) (g.exits i) (exit_lost_back m) e)))
      h

-- within 0 plies: no result is won yet
no_quiet : (xs : List ℕ) → list_all (λ (j : ℕ). false) xs ≡ true → xs ≡ []
no_quiet [] h = refl
no_quiet (x ∷ xs) h = absurd (false≢true h)

no_exit : (cs : List ℕ) → list_all (is_won_exit 0) cs ≡ true → cs ≡ []
no_exit [] h = refl
no_exit (c ∷ cs) h = absurd (grind (arith, nat_tests))

nothing_left : (g : Net) (n i : ℕ) (p : ℕ → Bool) → HasNoResult g i → all_won g p n i ≡ true
nothing_left g n i p h =
    and_from (list_all p (g.quiet i)) (list_all (is_won_exit n) (g.exits i)) (subst (λ xs. list_all p xs ≡ true) (sym h.0) refl) (subst (λ xs. list_all (is_won_exit n) xs ≡ true) (sym h.1) refl)

lost_rule : (g : Net) (n i : ℕ) → LostWithin g n i ↔ (HasNoResult g i ⊎ ((0 < n) × EveryResultWon g (n - 1) i))
unfolding is_lost_before is_won_before
lost_rule g zero i = (
  (λ h. let w = and_parts (list_all (λ j. false) (g.quiet i)) (list_all (is_won_exit 0) (g.exits i)) (lost_within_back g zero i h) in
      inl (no_quiet (g.quiet i) w.0, no_exit (g.exits i) w.1)),
  (λ h. lost_within g zero i (⊎_elim (λ e. nothing_left g 0 i (λ j. false) e) (λ e. absurd (omega (arith, e.0))) h)),
)
lost_rule g (suc m) i =
    let less : suc m - 1 ≡ m = omega arith in (
      (λ h. inr (omega arith, subst (λ x. EveryResultWon g x i) (sym less) (every_won g m i (lost_within_back g (suc m) i h)))),
      (λ h. lost_within g (suc m) i (⊎_elim (λ e. nothing_left g (suc m) i (is_won_before g (suc m)) e) (λ e. every_won_back g m i (subst (λ x. EveryResultWon g x i) less e.1)) h)),
    )

won_rule : (g : Net) (n i : ℕ) → WonWithin g n i ↔ ((0 < n) × SomeResultLost g (n - 1) i)
unfolding is_lost_before is_won_before
won_rule g zero i = (
  (λ h. absurd (⊎_elim (nothing_lost (g.quiet i)) (no_lost_exit (g.exits i)) (or_cases (list_any (λ j. false) (g.quiet i)) (list_any (is_lost_exit 0) (g.exits i)) (won_within_back g zero i h)))),
  (λ h. absurd (omega (arith, h.0))),
)
won_rule g (suc m) i =
    let less : suc m - 1 ≡ m = omega arith in (
      (λ h. (omega arith, subst (λ x. SomeResultLost g x i) (sym less) (some_is_lost g m i (won_within_back g (suc m) i h)))),
      (λ h. won_within g (suc m) i (some_is_lost_back g m i (subst (λ x. SomeResultLost g x i) less h.1))),
    )

pub ply_rules : (g : Net) → PlyRules g
ply_rules g = record { lost = lost_rule g; won = won_rule g }

within_decided : (g : Net) (n i : ℕ) → (LostWithin g n i ⊎ WonWithin g n i) → is_decided g (suc n) i ≡ true
within_decided g n i h =
    ⊎_elim
    (λ e. or_left (is_lost_before g (suc n) i) (is_won_before g (suc n) i) (lost_within_back g n i e))
    (λ e. or_right (is_lost_before g (suc n) i) (is_won_before g (suc n) i) (won_within_back g n i e))
    h

-- the depth says who wins
module _ (g : Net) (i depth : ℕ) (h : HasDepth g i depth) where
  neither : (is_lost_before g depth i ≡ false) × (is_won_before g depth i ≡ false)
  neither = or_parts (is_lost_before g depth i) (is_won_before g depth i) h.not_before

  even_lost : is_odd depth ≡ false → LostWithin g depth i
  even_lost even = lost_within g depth i (grind (arith, h.reached, neither, won_parity g depth i, is_odd-suc depth))

  odd_won : is_odd depth ≡ true → WonWithin g depth i
  odd_won odd = won_within g depth i (grind (arith, h.reached, neither, lost_parity g depth i, is_odd-suc depth))

  none_before : (n : ℕ) → n < depth → (LostWithin g n i ⊎ WonWithin g n i) → ⊥
  none_before n l e = both_ways (is_decided g depth i) h.not_before (decided_by_then g (suc n) depth i (omega (arith, l)) (within_decided g n i e))

pub code_rules : (g : Net) → CodeRules g
code_rules g = record {
  lost = λ i depth h e. even_lost g i depth h e;
  won = λ i depth h e. odd_won g i depth h e;
  least = λ i depth n h l e. none_before g i depth h n l e;
  draw = λ i n h e. both_ways (is_decided g (suc n) i) (h (suc n)) (within_decided g n i e);
  apart = λ i n l w. apart g (suc n) i (lost_within_back g n i l) (won_within_back g n i w);
}
