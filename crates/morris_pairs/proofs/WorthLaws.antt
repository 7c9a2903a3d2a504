-- The best of some results by their scores.
use Rattle.std.proofs.Common.{◌≡◌, ℕ, ◌+◌, ◌-◌, ◌<◌, ◌≤◌, ◌%◌, Bool, true, false, ltb, eqb, List, [], ◌∷◌, ◌++◌, map, max, Option, Some, None, refl, sym, ap, ◌∙◌, inl, inr, arith}
use Rattle.std.proofs.lemmas.Bool.{cases_Bool, cases_lt, lt-ltb, le-ltb, ltb-true, eqb-true, ne_eqb}
use Rattle.morris_wave.specs.declared.graph.Exits.{Exits}
use Rattle.morris_wave.specs.Exits.{is_odd}
use Rattle.morris_wave.specs.Summaries.{add_code, least_with, greatest_with}
use Rattle.morris_pairs.specs.Agreement.{code_above, add_all}
use Rattle.morris_pairs.specs.Scores.{score, score_of, code_of_score, best_of, is_short, IsShort}

abbrev summed : Option ℕ → Option ℕ → Bool → Exits
summed lost won drawn = record { least_lost = lost; greatest_won = won; drawn = drawn }

-- ---- one more result

odd_some : (c : ℕ) → is_odd c ≡ true → 0 < c
odd_some c e = let odd : c % 2 ≡ 1 = eqb-true (c % 2) 1 e in omega arith

more_lost : (lost won : Option ℕ) (drawn : Bool) (c : ℕ) → is_odd c ≡ true → c ≤ 65535 → is_short lost → is_short won
    → score_of (add_code (summed lost won drawn) c) ≡ max (score_of (summed lost won drawn)) (score c)
unfolding score score_of add_code
more_lost (Some d) won drawn c odd small short short_won = let some : 0 < c = odd_some c odd in rw odd (omega arith)
more_lost None won true c odd small short short_won = let some : 0 < c = odd_some c odd in rw odd (omega arith)
more_lost None None false c odd small short short_won = let some : 0 < c = odd_some c odd in rw odd (omega arith)
more_lost None (Some d) false c odd small short short_won = let some : 0 < c = odd_some c odd in rw odd (omega arith)

more_drawn : (lost won : Option ℕ) (drawn : Bool) → is_short lost → is_short won
    → score_of (add_code (summed lost won drawn) 0) ≡ max (score_of (summed lost won drawn)) (score 0)
unfolding score score_of add_code
more_drawn (Some d) won drawn short short_won = omega arith
more_drawn None won true short short_won = omega arith
more_drawn None None false short short_won = omega arith
more_drawn None (Some d) false short short_won = omega arith

more_won : (lost won : Option ℕ) (drawn : Bool) (c : ℕ) → is_odd c ≡ false → ltb 0 c ≡ true → eqb c 0 ≡ false → c ≤ 65535 → is_short lost → is_short won
    → score_of (add_code (summed lost won drawn) c) ≡ max (score_of (summed lost won drawn)) (score c)
unfolding score score_of add_code
more_won (Some d) won drawn c even above other small short short_won = rw (even, above, other) (omega arith)
more_won None won true c even above other small short short_won = rw (even, above, other) (omega arith)
more_won None None false c even above other small short short_won = let some : 0 < c = ltb-true 0 c above in rw (even, above, other) (omega arith)
more_won None (Some d) false c even above other small short short_won = let some : 0 < c = ltb-true 0 c above in rw (even, above, other) (omega arith)

score-added : (e : Exits) (c : ℕ) → IsShort e → c ≤ 65535 → score_of (add_code e c) ≡ max (score_of e) (score c)
score-added e c short small = elim (cases_Bool (is_odd c)) [
  | inl odd ↦ more_lost e.least_lost e.greatest_won e.drawn c odd small short.lost short.won
  | inr even ↦ elim (cases_lt 0 c) [
    | inl above ↦ more_won e.least_lost e.greatest_won e.drawn c even (lt-ltb 0 c above) (ne_eqb c 0 (λ z. omega arith)) small short.lost short.won
    | inr none ↦ let z : c ≡ 0 = omega arith in rw z (more_drawn e.least_lost e.greatest_won e.drawn short.lost short.won)
  ]
]

short_least : (o : Option ℕ) (c : ℕ) → c ≤ 65535 → is_short o → is_short (Some (least_with o (c - 1)))
short_least None c small short = omega arith
short_least (Some d) c small short = omega arith

short_greatest : (o : Option ℕ) (c : ℕ) → c ≤ 65535 → is_short o → is_short (Some (greatest_with o (c - 1)))
short_greatest None c small short = omega arith
short_greatest (Some d) c small short = omega arith

short-added : (e : Exits) (c : ℕ) → IsShort e → c ≤ 65535 → IsShort (add_code e c)
unfolding add_code
short-added e c short small = elim (cases_Bool (is_odd c)) [
  | inl odd ↦ rw odd (record { lost = short_least e.least_lost c small short.lost; won = short.won })
  | inr even ↦ elim (cases_Bool (ltb 0 c)) [
    | inl above ↦ rw (even, above) (record { lost = short.lost; won = short_greatest e.greatest_won c small short.won })
    | inr none ↦ rw (even, none) (record { lost = short.lost; won = short.won })
  ]
]

-- ---- several more results

pub best_of-none : (best : ℕ) → best_of best [] ≡ best
unfolding best_of
best_of-none best = refl

pub best_of-append : (best : ℕ) (codes more : List ℕ) → best_of best (codes ++ more) ≡ best_of (best_of best codes) more
unfolding best_of
best_of-append best [] more = refl
best_of-append best (c ∷ codes) more = best_of-append (max best (score c)) codes more

pub best_of-more : (best : ℕ) (codes : List ℕ) (code : ℕ) → best_of best (codes ++ code ∷ []) ≡ max (best_of best codes) (score code)
unfolding best_of
best_of-more best [] code = refl
best_of-more best (c ∷ codes) code = best_of-more (max best (score c)) codes code

module _ {M : Type 0} (f : M → ℕ) (small : (m : M) → f m ≤ 65535) where
  short-all : (e : Exits) (ms : List M) → IsShort e → IsShort (add_all e (map f ms))
  unfolding add_all
  short-all e [] short = short
  short-all e (m ∷ ms) short = short-all (add_code e (f m)) ms (short-added e (f m) short (small m))

  score-all : (e : Exits) (ms : List M) → IsShort e → score_of (add_all e (map f ms)) ≡ best_of (score_of e) (map f ms)
  unfolding add_all best_of
  score-all e [] short = refl
  score-all e (m ∷ ms) short =
      score-all (add_code e (f m)) ms (short-added e (f m) short (small m))
      ∙ ap (λ best. best_of best (map f ms)) (score-added e (f m) short (small m))

-- ---- the code that the rules give

code-lost : (d : ℕ) (won : Option ℕ) (drawn : Bool) → d ≤ 65535 → code_of_score (score_of (summed (Some d) won drawn)) ≡ d + 2
unfolding code_of_score score_of
code-lost d won drawn small = let above : ltb 131072 (300000 - d) ≡ true = lt-ltb 131072 (300000 - d) (omega arith) in rw above (omega arith)

code-won : (d : ℕ) → d ≤ 65535 → code_of_score (score_of (summed None (Some d) false)) ≡ d + 2
unfolding code_of_score score_of
code-won d small =
    let low : ltb 131072 (d + 1) ≡ false = le-ltb 131072 (d + 1) (omega arith) in
    let other : eqb (d + 1) 131072 ≡ false = ne_eqb (d + 1) 131072 (λ z. omega arith) in
    let some : eqb (d + 1) 0 ≡ false = ne_eqb (d + 1) 0 (λ z. omega arith) in
    rw (low, other, some) (omega arith)

code_by : (lost won : Option ℕ) (drawn : Bool) → is_short lost → is_short won → code_of_score (score_of (summed lost won drawn)) ≡ code_above (summed lost won drawn)
unfolding code_of_score score_of
code_by (Some d) won drawn short short_won = code-lost d won drawn short
code_by None won true short short_won = refl
code_by None None false short short_won = refl
code_by None (Some d) false short short_won = code-won d short_won

pub code-score : (e : Exits) → IsShort e → code_of_score (score_of e) ≡ code_above e
code-score e short = code_by e.least_lost e.greatest_won e.drawn short.lost short.won

-- the best of some results gives the code that their summary gives
pub code-best : {M : Type 0} (f : M → ℕ) → ((m : M) → f m ≤ 65535) → (e : Exits) (ms : List M) → IsShort e
    → code_of_score (best_of (score_of e) (map f ms)) ≡ code_above (add_all e (map f ms))
code-best f small e ms short =
    ap code_of_score (sym (score-all f small e ms short)) ∙ code-score (add_all e (map f ms)) (short-all f small e ms short)
