-- What one batch and one advance do to the counters that wait for exits too.
use Rattle.std.proofs.Common.{◌≡◌, ℕ, suc, ◌+◌, ◌≤◌, Bool, true, false, ◌&&◌, ◌||◌, cond, eqb, ltb, length, sym, ap, ap₂, ◌∙◌, arith}
use Rattle.std.specs.List.{count_by}
use Rattle.std.proofs.lemmas.Bool.Decides.{nat_tests}
use Rattle.morris_wave.specs.Nets.{Net}
use Rattle.morris_wave.specs.Exits.{is_odd, exits_of, exits_won}
use Rattle.morris_wave.specs.Waves.{entry_at, open_at, is_fresh, mark_code}
use Rattle.morris_wave.specs.Solving.{every, none}
use Rattle.morris_wave.specs.NodeRanges.{due_wave, waits, pending_at}
use Rattle.morris_wave.proofs.Applying.{odd_open, even_open, even_entry}
use Rattle.morris_wave.proofs.Advancing.{open_next, entry_next, open_first}
use Rattle.morris_wave.proofs.ExitsDue.{odd_lost, odd_won, even_lost, even_won, even_won_before, pending_zero}

-- a counter is at most one more than the quiet results
pub waits-le : (n : ℕ) (w : Bool) → cond {A = ℕ} w 0 1 ≤ 1
waits-le n w = grind (arith, nat_tests)

-- The fresh nodes of `x` are applied beside `a`; node i has `taken` places with them among its
-- quiet results.
module _ (g : Net) (n : ℕ) (a x : ℕ → Bool) (i taken : ℕ) (counted : taken ≡ count_by (λ j. x j && is_fresh g n j) (g.quiet i)) where
  pub odd_pending : is_odd n ≡ true → pending_at g n (λ k. a k || x k) i ≡ pending_at g n a i
  odd_pending odd = ap (λ c. c + waits n (exits_of (g.exits i))) (odd_open g n a x i taken counted odd)

  pub even_pending : is_odd n ≡ false → ((j : ℕ) → x j ≡ true → a j ≡ false) → pending_at g n a i ≡ pending_at g n (λ k. a k || x k) i + taken
  even_pending even apart = let e = even_open g n a x i taken counted even apart in omega (arith, e)

  pub even_closed : is_odd n ≡ false → ((j : ℕ) → x j ≡ true → a j ≡ false)
      → entry_at g n (λ k. a k || x k) i ≡ mark_code (entry_at g n a i) (ltb 0 taken && eqb (pending_at g n (λ k. a k || x k) i) 0) (suc n)
  even_closed even apart =
      even_entry g n a x i taken counted even apart
      ∙ ap (λ t. mark_code (entry_at g n a i) (ltb 0 taken && t) (suc n)) (sym (pending_zero g n (λ k. a k || x k) i))

-- from a complete wave to the next
module _ (g : Net) (n i : ℕ) where
  -- at an odd wave the exits of a node are due where one is lost: the node is won, and no counter
  -- falls
  pub odd_pending_next : is_odd (suc n) ≡ true → pending_at g (suc n) none i ≡ pending_at g n every i
  odd_pending_next odd = ap₂ (λ c (w : Bool). c + cond {A = ℕ} w 0 1) (open_next g n i) (odd_won n (g.exits i) odd)

  pub odd_entry_next : is_odd (suc n) ≡ true → entry_at g (suc n) none i ≡ mark_code (entry_at g n every i) (eqb (due_wave (exits_of (g.exits i))) (suc n)) (suc (suc n))
  odd_entry_next odd =
      entry_next g n i (eqb (due_wave (exits_of (g.exits i))) (suc n))
      (λ t. grind (arith, nat_tests, odd_lost n (g.exits i) odd))
      (λ now before. grind (arith, nat_tests, odd_lost n (g.exits i) odd, odd_won n (g.exits i) odd))

  -- at an even wave they are due where all are won: its counter falls by one, and with the last
  -- result it is lost
  pub even_pending_next : is_odd (suc n) ≡ false → pending_at g n every i ≡ pending_at g (suc n) none i + cond {A = ℕ} (eqb (due_wave (exits_of (g.exits i))) (suc n)) 1 0
  even_pending_next even = grind (arith, nat_tests, open_next g n i, even_won n (g.exits i) even, even_won_before n (g.exits i) even)

  pub even_entry_next : is_odd (suc n) ≡ false
      → entry_at g (suc n) none i ≡ mark_code (entry_at g n every i) (eqb (due_wave (exits_of (g.exits i))) (suc n) && eqb (pending_at g (suc n) none i) 0) (suc (suc n))
  even_entry_next even =
      entry_next g n i (eqb (due_wave (exits_of (g.exits i))) (suc n) && eqb (pending_at g (suc n) none i) 0)
      (λ t. grind (arith, nat_tests, closed))
      (λ now before. grind (arith, nat_tests, closed, even_lost n (g.exits i) even, even_won n (g.exits i) even))
    where
      closed : eqb (pending_at g (suc n) none i) 0 ≡ (eqb (open_at g n every i) 0 && exits_won (suc n) (exits_of (g.exits i)))
      closed = pending_zero g (suc n) none i ∙ ap (λ c. eqb c 0 && exits_won (suc n) (exits_of (g.exits i))) (open_next g n i)

-- before the first wave
pub pending_first : (g : Net) (a : ℕ → Bool) (i : ℕ) → pending_at g 0 a i ≡ length (g.quiet i) + waits 0 (exits_of (g.exits i))
pending_first g a i = ap (λ c. c + waits 0 (exits_of (g.exits i))) (open_first g a i)
