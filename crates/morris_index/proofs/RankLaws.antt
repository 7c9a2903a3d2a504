-- Laws of ranks: the rank of a set is below the number of sets with as many points, and no two of
-- these have the same rank.
use Rattle.std.proofs.Common.{◌≡◌, ℕ, zero, suc, ◌+◌, ◌-◌, ◌^◌, ◌<◌, ◌≤◌, Bool, true, false, not, cond, List, [], ◌∷◌, ◌++◌, map, length, filter, refl, sym, ◌∙◌, ap, inl, inr, arith, zero-add, length-append}
use Rattle.std.specs.List.{range_with_len}
use Rattle.std.proofs.lemmas.Bool.{cases_Bool, cases_eq}
use Rattle.std.proofs.lemmas.List.{append-nil, map-append, length-map}
use Rattle.std.proofs.lemmas.List.Elements.{filter-append}
use Rattle.morris_board.specs.Sets.{has, members}
use Rattle.morris_board.proofs.PointsLaws.{has-above}
use Rattle.morris_index.specs.Binomials.{choose}
unfoldable pub use Rattle.morris_index.specs.Numbering.{count_below}
use Rattle.morris_index.specs.Numbering.{rank_from, rank_of, number_outside}
use Rattle.morris_index.proofs.ChooseLaws.{choose-none, choose-suc, choose-le_suc}

-- ---- the numbers below n that pass a test, where n grows by one

range_more : (a n : ℕ) → range_with_len a (suc n) ≡ range_with_len a n ++ (a + n) ∷ []
range_more a zero = ap (λ k. k ∷ []) (omega arith)
range_more a (suc n) =
    ap (λ t. a ∷ t) (range_more (a + 1) n ∙ ap (λ k. range_with_len (a + 1) n ++ k ∷ []) (omega arith))

abbrev pub passing : (ℕ → Bool) → ℕ → List ℕ
passing f n = filter f (range_with_len 0 n)

passing-suc : (f : ℕ → Bool) (n : ℕ) → passing f (suc n) ≡ passing f n ++ filter f (n ∷ [])
passing-suc f n =
    ap (filter f) (range_more 0 n ∙ ap (λ k. range_with_len 0 n ++ k ∷ []) (zero-add n)) ∙ filter-append f (range_with_len 0 n) (n ∷ [])

pub passing-yes : (f : ℕ → Bool) (n : ℕ) → f n ≡ true → passing f (suc n) ≡ passing f n ++ n ∷ []
passing-yes f n h = passing-suc f n ∙ ap (λ b. passing f n ++ cond b (n ∷ []) []) h

pub passing-no : (f : ℕ → Bool) (n : ℕ) → f n ≡ false → passing f (suc n) ≡ passing f n
passing-no f n h = passing-suc f n ∙ ap (λ b. passing f n ++ cond b (n ∷ []) []) h ∙ append-nil (passing f n)

-- none from n on passes
pub passing-above : (f : ℕ → Bool) (n more : ℕ) → ((k : ℕ) → n ≤ k → f k ≡ false) → passing f (more + n) ≡ passing f n
passing-above f n zero none = ap (passing f) (zero-add n)
passing-above f n (suc more) none =
    let e : suc more + n ≡ suc (more + n) = omega arith in
    ap (passing f) e ∙ passing-no f (more + n) (none (more + n) (omega arith)) ∙ passing-above f n more none

pub members-passing : (s n : ℕ) → s < 2 ^ n → n ≤ 32 → members s ≡ passing (has s) n
unfolding members
members-passing s n within low =
    let e : 32 ≡ (32 - n) + n = omega arith in
    ap (passing (has s)) e ∙ passing-above (has s) n (32 - n) (λ k h. has-above s n k within h)

-- ---- how many of them

pub count-none : (f : ℕ → Bool) → count_below f 0 ≡ 0
unfolding count_below
count-none f = refl

pub count-yes : (f : ℕ → Bool) (n : ℕ) → f n ≡ true → count_below f (suc n) ≡ suc (count_below f n)
unfolding count_below
count-yes f n h = omega (arith, ap length (passing-yes f n h), length-append (passing f n) (n ∷ []))

pub count-no : (f : ℕ → Bool) (n : ℕ) → f n ≡ false → count_below f (suc n) ≡ count_below f n
unfolding count_below
count-no f n h = ap length (passing-no f n h)

-- ---- the numbers of the points outside a set

module _ (outside : ℕ) where
  pub number-zero : number_outside outside 0 ≡ 0
  unfolding number_outside
  number-zero = refl

  pub number-outside : (p : ℕ) → has outside p ≡ false → number_outside outside (suc p) ≡ suc (number_outside outside p)
  unfolding number_outside count_below
  number-outside p h = count-yes (λ q. not (has outside q)) p (ap not h)

  pub number-inside : (p : ℕ) → has outside p ≡ true → number_outside outside (suc p) ≡ number_outside outside p
  unfolding number_outside count_below
  number-inside p h = count-no (λ q. not (has outside q)) p (ap not h)

  -- a point's number is less than the point by the points of the set below it
  pub number-count : (p : ℕ) → number_outside outside p + count_below (has outside) p ≡ p
  unfolding count_below
  number-count zero = omega (arith, number-zero)
  number-count (suc p) = elim (cases_Bool (has outside p)) [
    | inl h ↦ omega (arith, number-count p, number-inside p h, count-yes (has outside) p h)
    | inr h ↦ omega (arith, number-count p, number-outside p h, count-no (has outside) p h)
  ]

-- ---- the rank of the numbers below n that pass a test

rank_from-append : (place p : ℕ) (ps : List ℕ) → rank_from place (ps ++ p ∷ []) ≡ rank_from place ps + choose p (place + length ps)
rank_from-append place p [] = let e : place ≡ place + 0 = omega arith in omega (arith, ap (choose p) e)
rank_from-append place p (q ∷ qs) =
    let e : suc place + length qs ≡ place + suc (length qs) = omega arith in
    omega (arith, rank_from-append (suc place) p qs, ap (choose p) e)

-- a list with one more point at its end
pub rank_of-append : (p : ℕ) (ps : List ℕ) → rank_of (ps ++ p ∷ []) ≡ rank_of ps + choose p (suc (length ps))
unfolding rank_of
rank_of-append p ps = let e : 1 + length ps ≡ suc (length ps) = omega arith in rank_from-append 1 p ps ∙ ap (λ k. rank_from 1 ps + choose p k) e

module _ (outside : ℕ) where
  -- the rank among the sets outside
  unfoldable pub rank_below : (ℕ → Bool) → ℕ → ℕ
  rank_below f n = rank_of (map (number_outside outside) (passing f n))

  pub rank-yes : (f : ℕ → Bool) (n : ℕ) → f n ≡ true → rank_below f (suc n) ≡ rank_below f n + choose (number_outside outside n) (suc (count_below f n))
  unfolding rank_below count_below
  rank-yes f n h =
      ap (λ ps. rank_of (map (number_outside outside) ps)) (passing-yes f n h)
      ∙ ap rank_of (map-append (number_outside outside) (passing f n) (n ∷ []))
      ∙ rank_of-append (number_outside outside n) (map (number_outside outside) (passing f n))
      ∙ ap (λ k. rank_of (map (number_outside outside) (passing f n)) + choose (number_outside outside n) (suc k)) (length-map (passing f n) (number_outside outside))

  pub rank-no : (f : ℕ → Bool) (n : ℕ) → f n ≡ false → rank_below f (suc n) ≡ rank_below f n
  unfolding rank_below
  rank-no f n h = ap (λ ps. rank_of (map (number_outside outside) ps)) (passing-no f n h)

  -- it is below the number of sets of as many points
  pub rank-lt : (f : ℕ → Bool) → ((p : ℕ) → f p ≡ true → has outside p ≡ false) → (n : ℕ)
      → rank_below f n < choose (number_outside outside n) (count_below f n)
  unfolding rank_below count_below rank_of
  rank-lt f apart zero = omega (arith, choose-none (number_outside outside 0))
  rank-lt f apart (suc n) = elim (cases_Bool (f n)) [
    | inl h ↦
        rw (rank-yes f n h, count-yes f n h, number-outside outside n (apart n h), choose-suc)
        (omega (arith, rank-lt f apart n))
    | inr h ↦ rw (rank-no f n h, count-no f n h) (elim (cases_Bool (has outside n)) [
      | inl y ↦ rw (number-inside outside n y) (rank-lt f apart n)
      | inr y ↦ rw (number-outside outside n y) (omega (arith, rank-lt f apart n, choose-le_suc (number_outside outside n) (count_below f n)))
    ])
  ]

  -- sets of as many points with the same rank have the same points
  pub rank-same : (f g : ℕ → Bool) → ((p : ℕ) → f p ≡ true → has outside p ≡ false) → ((p : ℕ) → g p ≡ true → has outside p ≡ false) → (n : ℕ)
      → count_below f n ≡ count_below g n → rank_below f n ≡ rank_below g n → (p : ℕ) → p < n → f p ≡ g p
  rank-same f g apart_f apart_g zero counts ranks p low = absurd (omega arith)
  rank-same f g apart_f apart_g (suc n) counts ranks p low = elim (cases_Bool (f n)) [
    | inl a ↦ elim (cases_Bool (g n)) [
      | inl b ↦
          let same : count_below f n ≡ count_below g n = omega (arith, count-yes f n a, count-yes g n b) in
          let rest : rank_below f n ≡ rank_below g n =
          omega (arith, rank-yes f n a, rank-yes g n b, ap (λ k. choose (number_outside outside n) (suc k)) same) in
          at_top (a ∙ sym b) (rank-same f g apart_f apart_g n same rest p)
      | inr b ↦ absurd (apart_top f g apart_g n a b counts ranks)
    ]
    | inr a ↦ elim (cases_Bool (g n)) [
      | inl b ↦ absurd (apart_top g f apart_f n b a (sym counts) (sym ranks))
      | inr b ↦
          let same : count_below f n ≡ count_below g n = omega (arith, count-no f n a, count-no g n b) in
          let rest : rank_below f n ≡ rank_below g n = omega (arith, rank-no f n a, rank-no g n b) in
          at_top (a ∙ sym b) (rank-same f g apart_f apart_g n same rest p)
    ]
  ]
    where
      at_top : f n ≡ g n → (p < n → f p ≡ g p) → f p ≡ g p
      at_top top below = elim (cases_eq p n) [
        | inl e ↦ rw e top
        | inr d ↦ below (omega arith)
      ]

      -- a set with the top point has a greater rank than one without it
      apart_top : (f g : ℕ → Bool) → ((p : ℕ) → g p ≡ true → has outside p ≡ false) → (n : ℕ) → f n ≡ true → g n ≡ false
          → count_below f (suc n) ≡ count_below g (suc n) → rank_below f (suc n) ≡ rank_below g (suc n) → ⊥
      apart_top f g apart n a b counts ranks =
          let same : suc (count_below f n) ≡ count_below g n = omega (arith, count-yes f n a, count-no g n b) in
          omega (arith, rank-yes f n a, rank-no g n b, rank-lt g apart n, ap (choose (number_outside outside n)) same)

-- the numbers that pass below a number are among those below a greater one
pub count_more : (f : ℕ → Bool) (m k : ℕ) → count_below f m ≤ count_below f (k + m)
count_more f m zero = let e : 0 + m ≡ m = zero-add m in rw e (omega arith)
count_more f m (suc k) =
    let e : suc k + m ≡ suc (k + m) = omega arith in
    rw e (elim (cases_Bool (f (k + m))) [
      | inl y ↦ omega (arith, count_more f m k, count-yes f (k + m) y)
      | inr y ↦ omega (arith, count_more f m k, count-no f (k + m) y)
    ])
