-- What is known, and the entries, in other words for the parts that are applied.
use Rattle.std.proofs.Common.{◌≡◌, ◌≤◌, ℕ, zero, suc, Bool, true, not, ◌&&◌, ◌||◌, eqb, ltb, refl, ap, arith}
use Rattle.std.proofs.lemmas.Bool.{and_parts, not-true}
use Rattle.std.proofs.lemmas.Bool.Decides.{nat_tests}
use Rattle.morris_wave.specs.Nets.{Net}
use Rattle.morris_wave.specs.Values.{is_lost_before, is_won_before, is_decided, code_within, HasDepth}
use Rattle.morris_wave.specs.Waves.{known_lost, known_won, entry_at, is_fresh}
use Rattle.morris_wave.specs.Solving.{every}
use Rattle.morris_wave.proofs.Depths.{lost_more, won_more, apart, code_is, code_kept, code_new, code_open}
use Rattle.morris_wave.proofs.Known.{decided_at_least, decided_at_most}

-- a node that is fresh after a wave has the depth of the wave
pub new_depth : (g : Net) (n i : ℕ) → is_fresh g (suc n) i ≡ true → HasDepth g i n
unfolding is_fresh
new_depth g n i e = let w = and_parts (not (is_decided g n i)) (is_decided g (suc n) i) e in record { reached = w.1; not_before = not-true (is_decided g n i) w.0 }

-- what is known depends on the parts alone
pub known_won_cong : (g : Net) (n : ℕ) (a b : ℕ → Bool) (j : ℕ) → a j ≡ b j → known_won g n a j ≡ known_won g n b j
unfolding known_won
known_won_cong g zero a b j e = refl
known_won_cong g (suc n) a b j e = ap (λ t. is_won_before g n j || (t && is_won_before g (suc n) j)) e

pub known_lost_cong : (g : Net) (n : ℕ) (a b : ℕ → Bool) (j : ℕ) → a j ≡ b j → known_lost g n a j ≡ known_lost g n b j
unfolding known_lost
known_lost_cong g zero a b j e = refl
known_lost_cong g (suc n) a b j e = ap (λ t. is_lost_before g n j || (t && is_lost_before g (suc n) j)) e

-- a part that has each fresh node is as good as every part
covers : (l w l' w' a : Bool) → (l ≡ true → l' ≡ true) → (l' ≡ true → w' ≡ true → ⊥) → ((not (l || w) && (l' || w')) ≡ true → a ≡ true) → (w || (a && w')) ≡ (w || (true && w'))
covers l w l' w' a more apart has = grind arith

covers_lost : (l w l' w' a : Bool) → (w ≡ true → w' ≡ true) → (l' ≡ true → w' ≡ true → ⊥) → ((not (l || w) && (l' || w')) ≡ true → a ≡ true) → (l || (a && l')) ≡ (l || (true && l'))
covers_lost l w l' w' a more apart has = grind arith

pub known_won_covered : (g : Net) (n : ℕ) (a : ℕ → Bool) (j : ℕ) → (is_fresh g n j ≡ true → a j ≡ true) → known_won g n a j ≡ known_won g n every j
unfolding known_won is_fresh
known_won_covered g zero a j has = refl
known_won_covered g (suc n) a j has = covers (is_lost_before g n j) (is_won_before g n j) (is_lost_before g (suc n) j) (is_won_before g (suc n) j) (a j) (lost_more g n j) (apart g (suc n) j) has

pub known_lost_covered : (g : Net) (n : ℕ) (a : ℕ → Bool) (j : ℕ) → (is_fresh g n j ≡ true → a j ≡ true) → known_lost g n a j ≡ known_lost g n every j
unfolding known_lost is_fresh
known_lost_covered g zero a j has = refl
known_lost_covered g (suc n) a j has = covers_lost (is_lost_before g n j) (is_won_before g n j) (is_lost_before g (suc n) j) (is_won_before g (suc n) j) (a j) (won_more g n j) (apart g (suc n) j) has

-- the nodes of code n are the fresh ones of wave n
pub fresh_code : (g : Net) (n i : ℕ) → eqb (code_within g (suc n) i) (suc n) ≡ is_fresh g (suc n) i
unfolding is_fresh
fresh_code g n i =
    let low : is_decided g n i ≡ true → code_within g n i ≤ n = λ e. (code_is g n i e).1 in
    grind (arith, nat_tests, code_kept g n i, code_new g n i, code_open g (suc n) i, low)

-- the fresh nodes are those whose entry is the wave
pub fresh_entry : (g : Net) (n : ℕ) (a : ℕ → Bool) (i : ℕ) → (ltb 0 n && eqb (entry_at g n a i) n) ≡ is_fresh g n i
unfolding is_fresh
fresh_entry g zero a i = refl
fresh_entry g (suc n) a i =
    grind (arith, nat_tests, decided_at_least g (suc n) a i, decided_at_most g (suc n) a i, code_kept g (suc n) i, code_new g (suc n) i, fresh_code g n i)
