-- From a complete wave to the next one, of which nothing is applied: only exits come due.
use Rattle.std.proofs.Common.{◌≡◌, ◌<◌, ℕ, zero, suc, Bool, true, false, not, ◌&&◌, ◌||◌, length, refl, sym, ap₂, ◌∙◌, arith}
use Rattle.std.specs.List.{list_all, list_any}
use Rattle.std.proofs.lemmas.Bool.Decides.{nat_tests}
use Rattle.std.proofs.lemmas.List.Folds.{list_any_none}
use Rattle.morris_wave.specs.Nets.{Net}
use Rattle.morris_wave.specs.Exits.{exits_of}
use Rattle.morris_wave.specs.Values.{is_lost_before, is_won_before, is_decided, is_lost_exit, is_won_exit, code_within}
use Rattle.morris_wave.specs.Waves.{known_lost, known_won, is_decided_at, entry_at, open_at, settles, mark_code}
use Rattle.morris_wave.specs.Solving.{every, none}
use Rattle.morris_wave.proofs.Tests.{any_same, all_same, count_all}
use Rattle.morris_wave.proofs.Depths.{lost_more, won_more, code_is, code_kept, code_new, code_open, none_decided}
use Rattle.morris_wave.proofs.ExitTests.{or_false}
use Rattle.morris_wave.proofs.Known.{decided_parts, open_same, decided_at_most, decided_at_least}

later : (p q : Bool) → (p ≡ true → q ≡ true) → (p || (true && q)) ≡ q
later p q h = grind arith

pub known_lost_all : (g : Net) (n j : ℕ) → known_lost g n every j ≡ is_lost_before g n j
unfolding known_lost is_lost_before
known_lost_all g zero j = refl
known_lost_all g (suc n) j = later (is_lost_before g n j) (is_lost_before g (suc n) j) (lost_more g n j)

pub known_won_all : (g : Net) (n j : ℕ) → known_won g n every j ≡ is_won_before g n j
unfolding known_won is_won_before
known_won_all g zero j = refl
known_won_all g (suc n) j = later (is_won_before g n j) (is_won_before g (suc n) j) (won_more g n j)

known_lost_next : (g : Net) (n j : ℕ) → known_lost g (suc n) none j ≡ is_lost_before g n j
unfolding known_lost
known_lost_next g n j = sym (or_false (is_lost_before g n j))

known_won_next : (g : Net) (n j : ℕ) → known_won g (suc n) none j ≡ is_won_before g n j
unfolding known_won
known_won_next g n j = sym (or_false (is_won_before g n j))

-- at a complete wave n the decided nodes are those of a depth of at most n
pub decided_all : (g : Net) (n i : ℕ) → is_decided_at g n every i ≡ is_decided g (suc n) i
unfolding is_lost_before is_won_before
decided_all g n i =
    ap₂ (λ p q. (p && list_all (is_won_exit n) (g.exits i)) || (q || list_any (is_lost_exit n) (g.exits i)))
    (all_same (known_won g n every) (is_won_before g n) (g.quiet i) (λ k d l. known_won_all g n _))
    (any_same (known_lost g n every) (is_lost_before g n) (g.quiet i) (λ k d l. known_lost_all g n _))

pub entry_all : (g : Net) (n i : ℕ) → entry_at g n every i ≡ code_within g (suc n) i
entry_all g n i = grind (arith, nat_tests, decided_all g n i, code_open g (suc n) i)

pub open_next : (g : Net) (n i : ℕ) → open_at g (suc n) none i ≡ open_at g n every i
open_next g n i = open_same g (suc n) n none every i (λ k d l. known_won_next g n _ ∙ sym (known_won_all g n _))

-- The test holds of the exits that come due at the next wave, and settles the node.
pub entry_next : (g : Net) (n i : ℕ) (test : Bool)
    → (test ≡ true → settles (suc n) (open_at g n every i) (exits_of (g.exits i)) ≡ true)
    → (settles (suc n) (open_at g n every i) (exits_of (g.exits i)) ≡ true → settles n (open_at g n every i) (exits_of (g.exits i)) ≡ false → test ≡ true)
    → entry_at g (suc n) none i ≡ mark_code (entry_at g n every i) test (suc (suc n))
entry_next g n i test sound whole =
    let now : is_decided_at g (suc n) none i ≡ (list_any (known_lost g n every) (g.quiet i) || settles (suc n) (open_at g n every i) (exits_of (g.exits i))) =
    decided_parts g (suc n) none i
    ∙ ap₂ (λ p q. p || settles (suc n) q (exits_of (g.exits i)))
    (any_same (known_lost g (suc n) none) (known_lost g n every) (g.quiet i) (λ k d l. known_lost_next g n _ ∙ sym (known_lost_all g n _)))
    (open_next g n i) in
    let some : is_decided g (suc n) i ≡ true → 0 < code_within g (suc n) i = λ e. (code_is g (suc n) i e).0 in
    grind (arith, nat_tests, decided_parts g n every i, decided_all g n i, code_kept g (suc n) i, code_new g (suc n) i, decided_at_least g (suc n) none i, decided_at_most g (suc n) none i, some)

none_won : (g : Net) (a : ℕ → Bool) (j : ℕ) → not (known_won g 0 a j) ≡ true
unfolding known_won
none_won g a j = refl

none_lost : (g : Net) (a : ℕ → Bool) (j : ℕ) → known_lost g 0 a j ≡ false
unfolding known_lost
none_lost g a j = refl

pub open_first : (g : Net) (a : ℕ → Bool) (i : ℕ) → open_at g 0 a i ≡ length (g.quiet i)
open_first g a i = count_all (λ j. not (known_won g 0 a j)) (none_won g a) (g.quiet i)

-- wave 0: the nodes with no result at all are lost
pub entry_first : (g : Net) (a : ℕ → Bool) (i : ℕ) → entry_at g 0 a i ≡ mark_code 0 (settles 0 (length (g.quiet i)) (exits_of (g.exits i))) 1
entry_first g a i =
    let same : is_decided_at g 0 a i ≡ settles 0 (length (g.quiet i)) (exits_of (g.exits i)) =
    decided_parts g 0 a i
    ∙ ap₂ (λ p c. p || settles 0 c (exits_of (g.exits i))) (list_any_none (known_lost g 0 a) (g.quiet i) (λ k d l. none_lost g a _)) (open_first g a i) in
    grind (arith, nat_tests, code_new g 0 i (none_decided g i), decided_at_most g 0 a i)
