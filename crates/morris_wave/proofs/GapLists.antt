-- Numbers that gaps stand for.
use Rattle.std.proofs.Common.{◌≡◌, ℕ, ◌+◌, ◌≤◌, Bool, true, false, cond, eqb, List, [], ◌∷◌, ◌++◌, refl, sym, ap, ◌∙◌, append-nil, arith}
use Rattle.std.proofs.lemmas.Bool.{cond-false, ne_eqb}
use Rattle.morris_wave.specs.Gaps.{numbers_reported, next_reported}

-- whichever kind the first gap is of, what is so of the others is so with it
reported_either : (b : Bool) (node far near : ℕ) (xs ys : List ℕ)
    → numbers_reported far (xs ++ ys) ≡ numbers_reported far xs ++ numbers_reported (next_reported far xs) ys
    → numbers_reported near (xs ++ ys) ≡ numbers_reported near xs ++ numbers_reported (next_reported near xs) ys
    → cond {A = List ℕ} b (numbers_reported far (xs ++ ys)) (node ∷ numbers_reported near (xs ++ ys))
    ≡ cond {A = List ℕ} b (numbers_reported far xs) (node ∷ numbers_reported near xs) ++ numbers_reported (cond {A = ℕ} b (next_reported far xs) (next_reported near xs)) ys
reported_either true node far near xs ys without with_it = without
reported_either false node far near xs ys without with_it = ap (λ (zs : List ℕ). node ∷ zs) with_it

next_either : (b : Bool) (far near : ℕ) (xs ys : List ℕ) → next_reported far (xs ++ ys) ≡ next_reported (next_reported far xs) ys → next_reported near (xs ++ ys) ≡ next_reported (next_reported near xs) ys
    → cond {A = ℕ} b (next_reported far (xs ++ ys)) (next_reported near (xs ++ ys)) ≡ next_reported (cond {A = ℕ} b (next_reported far xs) (next_reported near xs)) ys
next_either true far near xs ys without with_it = without
next_either false far near xs ys without with_it = with_it

least_either : (b : Bool) (from far near : ℕ) → from ≤ far → from ≤ near → from ≤ cond {A = ℕ} b far near
least_either true from far near without with_it = without
least_either false from far near without with_it = with_it

-- of two lists of gaps the second one goes on where the first one ends
pub reported-append : (from : ℕ) (xs ys : List ℕ) → numbers_reported from (xs ++ ys) ≡ numbers_reported from xs ++ numbers_reported (next_reported from xs) ys
reported-append from [] ys = refl
reported-append from (gap ∷ xs) ys =
    reported_either (eqb gap 65535) (from + gap) (from + 65535) (from + gap + 1) xs ys (reported-append (from + 65535) xs ys) (reported-append (from + gap + 1) xs ys)

pub next-append : (from : ℕ) (xs ys : List ℕ) → next_reported from (xs ++ ys) ≡ next_reported (next_reported from xs) ys
next-append from [] ys = refl
next-append from (gap ∷ xs) ys = next_either (eqb gap 65535) (from + 65535) (from + gap + 1) xs ys (next-append (from + 65535) xs ys) (next-append (from + gap + 1) xs ys)

-- nothing comes before what comes first
pub next-least : (from : ℕ) (gaps : List ℕ) → from ≤ next_reported from gaps
next-least from [] = omega arith
next-least from (gap ∷ gaps) =
    least_either (eqb gap 65535) from (next_reported (from + 65535) gaps) (next_reported (from + gap + 1) gaps) (omega (arith, next-least (from + 65535) gaps)) (omega (arith, next-least (from + gap + 1) gaps))

-- a gap that no number follows
pub reported_far : (from : ℕ) (gaps : List ℕ) → numbers_reported from (65535 ∷ gaps) ≡ numbers_reported (from + 65535) gaps
reported_far from gaps = refl

pub next_far : (from : ℕ) (gaps : List ℕ) → next_reported from (65535 ∷ gaps) ≡ next_reported (from + 65535) gaps
next_far from gaps = refl

-- and one that a number follows
module _ (from gap : ℕ) (gaps : List ℕ) (other : gap ≡ 65535 → ⊥) where
  pub reported_near : numbers_reported from (gap ∷ gaps) ≡ (from + gap) ∷ numbers_reported (from + gap + 1) gaps
  reported_near = cond-false {A = List ℕ} (eqb gap 65535) (numbers_reported (from + 65535) gaps) ((from + gap) ∷ numbers_reported (from + gap + 1) gaps) (ne_eqb gap 65535 other)

  pub next_near : next_reported from (gap ∷ gaps) ≡ next_reported (from + gap + 1) gaps
  next_near = cond-false {A = ℕ} (eqb gap 65535) (next_reported (from + 65535) gaps) (next_reported (from + gap + 1) gaps) (ne_eqb gap 65535 other)

-- without gaps
pub reported_none : (from : ℕ) → numbers_reported from [] ≡ []
reported_none from = refl

pub next_none : (from : ℕ) → next_reported from [] ≡ from
next_none from = refl

-- a gap more at the end
module _ (from next : ℕ) (gaps : List ℕ) (is : next ≡ next_reported from gaps) where
  pub put_far : numbers_reported from (gaps ++ 65535 ∷ []) ≡ numbers_reported from gaps
  put_far =
      reported-append from gaps (65535 ∷ [])
      ∙ ap (λ (xs : List ℕ). numbers_reported from gaps ++ xs) (reported_far (next_reported from gaps) [] ∙ reported_none (next_reported from gaps + 65535))
      ∙ append-nil (numbers_reported from gaps)

  pub after_far : next + 65535 ≡ next_reported from (gaps ++ 65535 ∷ [])
  after_far = omega (arith, is, next-append from gaps (65535 ∷ []), next_far (next_reported from gaps) [], next_none (next_reported from gaps + 65535))

  module _ (gap : ℕ) (other : gap ≡ 65535 → ⊥) where
    pub put_near : numbers_reported from (gaps ++ gap ∷ []) ≡ numbers_reported from gaps ++ (next + gap) ∷ []
    put_near =
        reported-append from gaps (gap ∷ [])
        ∙ ap (λ (xs : List ℕ). numbers_reported from gaps ++ xs)
        (reported_near (next_reported from gaps) gap [] other
        ∙ ap (λ (xs : List ℕ). (next_reported from gaps + gap) ∷ xs) (reported_none (next_reported from gaps + gap + 1))
        ∙ ap (λ (n : ℕ). (n + gap) ∷ []) (sym is))

    pub after_near : next + gap + 1 ≡ next_reported from (gaps ++ gap ∷ [])
    after_near = omega (arith, is, next-append from gaps (gap ∷ []), next_near (next_reported from gaps) gap [] other, next_none (next_reported from gaps + gap + 1))
