-- What changes when one more part of the fresh nodes is applied.
use Rattle.std.proofs.Common.{◌≡◌, ℕ, zero, suc, ◌+◌, Bool, true, false, not, ◌&&◌, ◌||◌, cond, eqb, ltb, refl, sym, ap, ap₂, ◌∙◌, arith}
use Rattle.std.specs.List.{list_any, count_by}
use Rattle.std.proofs.lemmas.Bool.{false≢true, both_ways, true_from_ne_false}
use Rattle.std.proofs.lemmas.Bool.Decides.{nat_tests}
use Rattle.morris_wave.specs.Nets.{Net}
use Rattle.morris_wave.specs.Exits.{is_odd, exits_of, exits_lost, exits_won}
use Rattle.morris_wave.specs.Values.{is_lost_before, is_won_before}
use Rattle.morris_wave.specs.Waves.{known_lost, known_won, entry_at, open_at, is_fresh, settles, mark_code}
use Rattle.morris_wave.proofs.Tests.{any_or, any_same, counts_add, some_counted}
use Rattle.morris_wave.proofs.Depths.{lost_more, won_more, apart, lost_parity, won_parity}
use Rattle.morris_wave.proofs.Known.{entry_step, decided_parts, open_same}

-- `l` and `w`: lost and won before; `l'` and `w'`: lost and won a ply later; then a node is new
-- where it is decided now and wasn't before
new_is_lost : (l l' w w' : Bool) → (w ≡ true → w' ≡ true) → (l' ≡ true → w' ≡ true → ⊥) → (w' ≡ true → w ≡ true) → (not (l || w) && (l' || w')) ≡ (not l && l')
new_is_lost l l' w w' more apart same = grind arith

new_is_won : (l l' w w' : Bool) → (l ≡ true → l' ≡ true) → (l' ≡ true → w' ≡ true → ⊥) → (l' ≡ true → l ≡ true) → (not (l || w) && (l' || w')) ≡ (not w && w')
new_is_won l l' w w' more apart same = grind arith

-- one part more, `x`, beside what is applied, `a`
joined : (l l' a x : Bool) → (l || ((a || x) && l')) ≡ ((l || (a && l')) || (x && (not l && l')))
joined l l' a x = grind arith

unmoved : (w w' a x : Bool) → (w' ≡ true → w ≡ true) → (w || ((a || x) && w')) ≡ (w || (a && w'))
unmoved w w' a x same = grind arith

gone : (w w' a x : Bool) → (x ≡ true → a ≡ false)
    → cond {A = ℕ} (not (w || (a && w'))) 1 0 ≡ cond {A = ℕ} (not (w || ((a || x) && w'))) 1 0 + cond {A = ℕ} (x && (not w && w')) 1 0
gone w w' a x apart = grind arith

module _ (g : Net) (n j : ℕ) where
  -- at an odd code no node is newly won, at an even one none newly lost
  not_won_new : is_odd (suc n) ≡ true → is_won_before g (suc n) j ≡ true → is_won_before g n j ≡ true
  not_won_new odd h = true_from_ne_false (is_won_before g n j) (λ e. both_ways (is_odd (suc n)) (won_parity g n j h e) odd)

  not_lost_new : is_odd (suc n) ≡ false → is_lost_before g (suc n) j ≡ true → is_lost_before g n j ≡ true
  not_lost_new even h = true_from_ne_false (is_lost_before g n j) (λ e. both_ways (is_odd (suc n)) even (lost_parity g n j h e))

  fresh_lost : is_odd (suc n) ≡ true → is_fresh g (suc n) j ≡ (not (is_lost_before g n j) && is_lost_before g (suc n) j)
  unfolding is_fresh
  fresh_lost odd = new_is_lost (is_lost_before g n j) (is_lost_before g (suc n) j) (is_won_before g n j) (is_won_before g (suc n) j) (won_more g n j) (apart g (suc n) j) (not_won_new odd)

  fresh_won : is_odd (suc n) ≡ false → is_fresh g (suc n) j ≡ (not (is_won_before g n j) && is_won_before g (suc n) j)
  unfolding is_fresh
  fresh_won even = new_is_won (is_lost_before g n j) (is_lost_before g (suc n) j) (is_won_before g n j) (is_won_before g (suc n) j) (lost_more g n j) (apart g (suc n) j) (not_lost_new even)

-- what one part more, `x`, makes known of a node
module _ (g : Net) (a x : ℕ → Bool) (j : ℕ) where
  lost_known : (n : ℕ) → is_odd n ≡ true → known_lost g n (λ k. a k || x k) j ≡ (known_lost g n a j || (x j && is_fresh g n j))
  unfolding known_lost
  lost_known zero odd = absurd (false≢true odd)
  lost_known (suc n) odd =
      joined (is_lost_before g n j) (is_lost_before g (suc n) j) (a j) (x j)
      ∙ ap (λ f. known_lost g (suc n) a j || (x j && f)) (sym (fresh_lost g n j odd))

  won_same : (n : ℕ) → is_odd n ≡ true → known_won g n (λ k. a k || x k) j ≡ known_won g n a j
  unfolding known_won
  won_same zero odd = refl
  won_same (suc n) odd = unmoved (is_won_before g n j) (is_won_before g (suc n) j) (a j) (x j) (not_won_new g n j odd)

  lost_same : (n : ℕ) → is_odd n ≡ false → known_lost g n (λ k. a k || x k) j ≡ known_lost g n a j
  unfolding known_lost
  lost_same zero even = refl
  lost_same (suc n) even = unmoved (is_lost_before g n j) (is_lost_before g (suc n) j) (a j) (x j) (not_lost_new g n j even)

  won_counted : (n : ℕ) → is_odd n ≡ false → (x j ≡ true → a j ≡ false)
      → cond {A = ℕ} (not (known_won g n a j)) 1 0 ≡ cond {A = ℕ} (not (known_won g n (λ k. a k || x k) j)) 1 0 + cond {A = ℕ} (x j && is_fresh g n j) 1 0
  unfolding known_won is_fresh
  won_counted zero even apart = none (x j)
    where
      none : (t : Bool) → ◌≡◌ {A = ℕ} 1 (1 + cond {A = ℕ} (t && false) 1 0)
      none true = refl
      none false = refl
  won_counted (suc n) even apart =
      gone (is_won_before g n j) (is_won_before g (suc n) j) (a j) (x j) apart
      ∙ ap (λ f. cond {A = ℕ} (not (known_won g (suc n) (λ k. a k || x k) j)) 1 0 + cond {A = ℕ} (x j && f) 1 0) (sym (fresh_won g n j even))

swap_ends : (l t s : Bool) → ((l || t) || s) ≡ ((l || s) || t)
swap_ends l t s = grind arith

-- a node with no counter left is lost where its exits are won, and that is new where the counter
-- fell
closes : (l x zb za t w : Bool) → zb ≡ (za || (t && zb)) → (l || (x || (zb && w))) ≡ ((l || (x || (za && w))) || (t && (zb && w)))
closes l x zb za t w h = grind arith

counter_falls : (before after taken : ℕ) → before ≡ after + taken → eqb after 0 ≡ (eqb before 0 || (ltb 0 taken && eqb after 0))
counter_falls before after taken e = grind (arith, nat_tests)

-- The fresh nodes of `x` are applied beside `a`; node i has `taken` places with them among its
-- quiet results.
module _ (g : Net) (n : ℕ) (a x : ℕ → Bool) (i taken : ℕ) (counted : taken ≡ count_by (λ j. x j && is_fresh g n j) (g.quiet i)) where
  pub odd_open : is_odd n ≡ true → open_at g n (λ k. a k || x k) i ≡ open_at g n a i
  odd_open odd = open_same g n n (λ k. a k || x k) a i (λ k d l. won_same g a x _ n odd)

  -- they are lost: each node that leads to one of them is won
  pub odd_entry : is_odd n ≡ true → entry_at g n (λ k. a k || x k) i ≡ mark_code (entry_at g n a i) (ltb 0 taken) (suc n)
  odd_entry odd =
      entry_step g n a (λ k. a k || x k) i (ltb 0 taken)
      (decided_parts g n (λ k. a k || x k) i
      ∙ (ap₂ (λ p q. p || settles n q (exits_of (g.exits i))) lost_now (odd_open odd)
      ∙ (swap_ends (list_any (known_lost g n a) (g.quiet i)) (ltb 0 taken) (settles n (open_at g n a i) (exits_of (g.exits i)))
      ∙ ap (λ p. p || ltb 0 taken) (sym (decided_parts g n a i)))))
    where
      lost_now : list_any (known_lost g n (λ k. a k || x k)) (g.quiet i) ≡ (list_any (known_lost g n a) (g.quiet i) || ltb 0 taken)
      lost_now =
          any_or (known_lost g n (λ k. a k || x k)) (known_lost g n a) (λ j. x j && is_fresh g n j) (g.quiet i) (λ j. lost_known g a x j n odd)
          ∙ ap (λ p. list_any (known_lost g n a) (g.quiet i) || p) (sym (some_counted (λ j. x j && is_fresh g n j) (g.quiet i)) ∙ ap (ltb 0) (sym counted))

  -- they are won: the counters fall, and a node whose counter is spent is lost if all its exits are
  -- won
  pub even_open : is_odd n ≡ false → ((j : ℕ) → x j ≡ true → a j ≡ false) → open_at g n a i ≡ open_at g n (λ k. a k || x k) i + taken
  even_open even apart =
      counts_add (λ j. not (known_won g n a j)) (λ j. not (known_won g n (λ k. a k || x k) j)) (λ j. x j && is_fresh g n j) (g.quiet i) (λ j. won_counted g a x j n even (apart j))
      ∙ ap (λ t. open_at g n (λ k. a k || x k) i + t) (sym counted)

  pub even_entry : is_odd n ≡ false → ((j : ℕ) → x j ≡ true → a j ≡ false)
      → entry_at g n (λ k. a k || x k) i ≡ mark_code (entry_at g n a i) (ltb 0 taken && (eqb (open_at g n (λ k. a k || x k) i) 0 && exits_won n (exits_of (g.exits i)))) (suc n)
  even_entry even apart =
      entry_step g n a (λ k. a k || x k) i (ltb 0 taken && (eqb (open_at g n (λ k. a k || x k) i) 0 && exits_won n (exits_of (g.exits i))))
      (decided_parts g n (λ k. a k || x k) i
      ∙ (ap (λ p. p || settles n (open_at g n (λ k. a k || x k) i) (exits_of (g.exits i))) (any_same (known_lost g n (λ k. a k || x k)) (known_lost g n a) (g.quiet i) (λ k d l. lost_same g a x _ n even))
      ∙ (closes (list_any (known_lost g n a) (g.quiet i)) (exits_lost n (exits_of (g.exits i))) (eqb (open_at g n (λ k. a k || x k) i) 0) (eqb (open_at g n a i) 0) (ltb 0 taken) (exits_won n (exits_of (g.exits i)))
      (counter_falls (open_at g n a i) (open_at g n (λ k. a k || x k) i) taken (even_open even apart))
      ∙ ap (λ p. p || (ltb 0 taken && (eqb (open_at g n (λ k. a k || x k) i) 0 && exits_won n (exits_of (g.exits i))))) (sym (decided_parts g n a i)))))
