-- What is known and decided at a wave: how it grows with each part that is applied, and from wave
-- to wave.
use Rattle.std.proofs.Common.{◌↔◌, ◌≡◌, ℕ, zero, suc, ◌<◌, Bool, true, false, not, ◌&&◌, ◌||◌, cond, eqb, sym, ap, ap₂, ◌∙◌, subst, ⊎_elim, arith}
use Rattle.std.specs.List.{list_any, All}
use Rattle.std.proofs.lemmas.Bool.{false≢true, or_left, cases_Bool, both_ways, cond-true, cond-false, false_from_ne_true}
use Rattle.std.proofs.lemmas.Bool.Decides.{nat_tests}
use Rattle.morris_wave.specs.Nets.{Net}
use Rattle.morris_wave.specs.Exits.{exits_of, exits_lost, exits_won}
use Rattle.morris_wave.specs.Values.{is_lost_before, is_won_before, is_decided, code_within, HasCode}
use Rattle.morris_wave.specs.Waves.{known_lost, known_won, is_decided_at, entry_at, open_at, settles, mark_code}
use Rattle.morris_wave.proofs.Tests.{any_same, count_same, none_counted}
use Rattle.morris_wave.proofs.Depths.{lost_more, won_more, all_won_mono_at, some_lost_mono, all_won_later, some_lost_later, code_is, code_new, none_decided}
use Rattle.morris_wave.proofs.ExitTests.{some_exit_lost, each_exit_won}

-- what is known is decided by then, and what was decided a ply before is known
known_lost_at_most : (g : Net) (n : ℕ) (a : ℕ → Bool) (j : ℕ) → known_lost g n a j ≡ true → is_lost_before g n j ≡ true
unfolding known_lost
known_lost_at_most g zero a j h = absurd (false≢true h)
known_lost_at_most g (suc n) a j h = grind (arith, lost_more g n j)

known_won_at_most : (g : Net) (n : ℕ) (a : ℕ → Bool) (j : ℕ) → known_won g n a j ≡ true → is_won_before g n j ≡ true
unfolding known_won
known_won_at_most g zero a j h = absurd (false≢true h)
known_won_at_most g (suc n) a j h = grind (arith, won_more g n j)

known_lost_at_least : (g : Net) (n : ℕ) (a : ℕ → Bool) (j : ℕ) → is_lost_before g n j ≡ true → known_lost g (suc n) a j ≡ true
unfolding known_lost
known_lost_at_least g n a j h = or_left (is_lost_before g n j) (a j && is_lost_before g (suc n) j) h

known_won_at_least : (g : Net) (n : ℕ) (a : ℕ → Bool) (j : ℕ) → is_won_before g n j ≡ true → known_won g (suc n) a j ≡ true
unfolding known_won
known_won_at_least g n a j h = or_left (is_won_before g n j) (a j && is_won_before g (suc n) j) h

-- a decided node has a depth of at most n, and one of depth at most n - 1 is decided whatever is
-- applied
pub decided_at_most : (g : Net) (n : ℕ) (a : ℕ → Bool) (i : ℕ) → is_decided_at g n a i ≡ true → is_decided g (suc n) i ≡ true
unfolding is_lost_before is_won_before
decided_at_most g n a i h =
    grind (arith, all_won_mono_at g i n (known_won g n a) (is_won_before g n) (known_won_at_most g n a), some_lost_mono g i n (known_lost g n a) (is_lost_before g n) (known_lost_at_most g n a))

pub decided_at_least : (g : Net) (n : ℕ) (a : ℕ → Bool) (i : ℕ) → is_decided g n i ≡ true → is_decided_at g n a i ≡ true
unfolding is_lost_before is_won_before
decided_at_least g zero a i h = absurd (both_ways (is_decided g zero i) (none_decided g i) h)
decided_at_least g (suc n) a i h =
    grind (
      arith,
      all_won_later g i n (is_won_before g n) (known_won g (suc n) a) (known_won_at_least g n a),
      some_lost_later g i n (is_lost_before g n) (known_lost g (suc n) a) (known_lost_at_least g n a),
    )

-- a decided node that has no smaller depth has depth n
pub entry_new : (g : Net) (n : ℕ) (a b : ℕ → Bool) (i : ℕ) → is_decided_at g n a i ≡ false → is_decided_at g n b i ≡ true → code_within g (suc n) i ≡ suc n
entry_new g n a b i h k =
    let before : is_decided g n i ≡ false = false_from_ne_true (is_decided g n i) (λ e. both_ways (is_decided_at g n a i) h (decided_at_least g n a i e)) in
    code_new g n i before (decided_at_most g n b i k)

-- one part more is applied: an entry changes exactly where the test holds
pub entry_step : (g : Net) (n : ℕ) (a b : ℕ → Bool) (i : ℕ) (test : Bool) → is_decided_at g n b i ≡ (is_decided_at g n a i || test) → entry_at g n b i ≡ mark_code (entry_at g n a i) test (suc n)
entry_step g n a b i test h =
    let some : is_decided_at g n a i ≡ true → 0 < code_within g (suc n) i = λ e. (code_is g (suc n) i (decided_at_most g n a i e)).0 in
    grind (arith, nat_tests, entry_new g n a b i, some)

-- an entry that is there is the code
pub entry_code : (g : Net) (n : ℕ) (a : ℕ → Bool) (i : ℕ) → 0 < entry_at g n a i → HasCode g i (entry_at g n a i)
entry_code g n a i some =
    ⊎_elim
    (λ e. subst (λ x. HasCode g i x) (sym (cond-true {A = ℕ} (is_decided_at g n a i) (code_within g (suc n) i) 0 e)) (code_is g (suc n) i (decided_at_most g n a i e)).2)
    (λ e. absurd (omega (arith, some, cond-false {A = ℕ} (is_decided_at g n a i) (code_within g (suc n) i) 0 e)))
    (cases_Bool (is_decided_at g n a i))

-- an entry is 0 exactly where the node isn't decided
pub entry_open : (g : Net) (n : ℕ) (a : ℕ → Bool) (i : ℕ) → (entry_at g n a i ≡ 0) ↔ (is_decided_at g n a i ≡ false)
entry_open g n a i = (
  (λ z. false_from_ne_true (is_decided_at g n a i) (λ e.
      let w = code_is g (suc n) i (decided_at_most g n a i e) in
      omega (arith, w.0, z, cond-true {A = ℕ} (is_decided_at g n a i) (code_within g (suc n) i) 0 e))),
  (λ e. cond-false {A = ℕ} (is_decided_at g n a i) (code_within g (suc n) i) 0 e),
)

regroup : (w e l x : Bool) → ((w && e) || (l || x)) ≡ (l || (x || (w && e)))
regroup w e l x = grind arith

-- a node is decided by a quiet result that is lost, or by its exits
pub decided_parts : (g : Net) (n : ℕ) (a : ℕ → Bool) (i : ℕ)
    → is_decided_at g n a i ≡ (list_any (known_lost g n a) (g.quiet i) || settles n (open_at g n a i) (exits_of (g.exits i)))
decided_parts g n a i =
    ap₂ (λ x y. x || y)
    (ap₂ (λ x y. x && y) (sym (none_counted (known_won g n a) (g.quiet i))) (each_exit_won n (g.exits i)))
    (ap (λ x. list_any (known_lost g n a) (g.quiet i) || x) (some_exit_lost n (g.exits i)))
    ∙ regroup (eqb (open_at g n a i) 0) (exits_won n (exits_of (g.exits i))) (list_any (known_lost g n a) (g.quiet i)) (exits_lost n (exits_of (g.exits i)))

-- entries and counters follow from what is known of the quiet results
module _ (g : Net) (n m : ℕ) (a b : ℕ → Bool) (i : ℕ) where
  pub open_same : All (λ j. known_won g n a j ≡ known_won g m b j) (g.quiet i) → open_at g n a i ≡ open_at g m b i
  open_same h = count_same (λ j. not (known_won g n a j)) (λ j. not (known_won g m b j)) (g.quiet i) (λ k d l. ap not (h k d l))

module _ (g : Net) (n : ℕ) (a b : ℕ → Bool) (i : ℕ) where
  pub entry_same : All (λ j. known_won g n a j ≡ known_won g n b j) (g.quiet i) → All (λ j. known_lost g n a j ≡ known_lost g n b j) (g.quiet i) → entry_at g n a i ≡ entry_at g n b i
  entry_same h k =
      ap (λ x. cond x (code_within g (suc n) i) 0)
      (decided_parts g n a i
      ∙ (ap₂ (λ x y. x || settles n y (exits_of (g.exits i))) (any_same (known_lost g n a) (known_lost g n b) (g.quiet i) k) (open_same g n n a b i h)
      ∙ sym (decided_parts g n b i)))
