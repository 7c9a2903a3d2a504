-- How the rank of a set changes where one of its points moves: from sums over the points below each
-- point, in constant time.
use Rattle.std.proofs.Common.{◌≡◌, ◌≢◌, ℕ, zero, suc, ◌+◌, ◌-◌, ◌<◌, ◌≤◌, Bool, true, false, cond, refl, sym, ◌∙◌, ap, ap₂, subst, inl, inr, arith, zero-add}
use Rattle.std.proofs.lemmas.Bool.{cases_Bool}
use Rattle.morris_index.specs.Binomials.{choose}
use Rattle.morris_index.specs.Numbering.{number_outside, rank_of}
pub use Rattle.morris_index.specs.Sums.{total}
use Rattle.morris_index.specs.Sums.{term}
use Rattle.morris_index.proofs.RankLaws.{count_below, count-none, count-yes, count-no, rank_below, rank-yes, rank-no}

-- ---- sums of what stands at the points below n

pub total-zero : (t : ℕ → ℕ) → total t 0 ≡ 0
unfolding total
total-zero t = refl

pub total-suc : (t : ℕ → ℕ) (n : ℕ) → total t (suc n) ≡ total t n + t n
unfolding total
total-suc t n = refl

-- two sums grow alike where they are sums of the same
pub alike_from : (t s : ℕ → ℕ) (a k : ℕ) → ((p : ℕ) → a ≤ p → p < k + a → t p ≡ s p) → total t (k + a) + total s a ≡ total t a + total s (k + a)
alike_from t s a zero same = let e : 0 + a ≡ a = zero-add a in rw e refl
alike_from t s a (suc k) same =
    let e : suc k + a ≡ suc (k + a) = omega arith in
    let here : t (k + a) ≡ s (k + a) = same (k + a) (omega arith) (omega arith) in
    let rest : total t (k + a) + total s a ≡ total t a + total s (k + a) = alike_from t s a k (λ p low high. same p low (omega arith)) in
    rw (e, total-suc t (k + a), total-suc s (k + a)) (omega arith)

pub alike : (t s : ℕ → ℕ) (a n : ℕ) → a ≤ n → ((p : ℕ) → a ≤ p → p < n → t p ≡ s p) → total t n + total s a ≡ total t a + total s n
alike t s a n low same =
    let e : (n - a) + a ≡ n = omega arith in
    subst (λ m. total t m + total s a ≡ total t a + total s m) e (alike_from t s a (n - a) (λ p l h. same p l (omega arith)))

-- ---- a point that passes stands for its binomial coefficient

pub rank-zero : (outside : ℕ) (f : ℕ → Bool) → rank_below outside f 0 ≡ 0
unfolding rank_below rank_of
rank-zero outside f = refl

pub rank-total : (outside : ℕ) (f : ℕ → Bool) (n : ℕ) → rank_below outside f n ≡ total (term f (number_outside outside) 1) n
rank-total outside f zero = rank-zero outside f ∙ sym (total-zero _)
rank-total outside f (suc n) = elim (cases_Bool (f n)) [
  | inl y ↦
      let e : suc (count_below f n) ≡ count_below f n + 1 = omega arith in
      rank-yes outside f n y ∙ (ap₂ (λ x k. x + choose (number_outside outside n) k) (rank-total outside f n) e
      ∙ sym (total-suc _ n ∙ ap (λ b. total (term f (number_outside outside) 1) n + cond b (choose (number_outside outside n) (count_below f n + 1)) 0) y))
  | inr fails ↦
      rank-no outside f n fails ∙ (rank-total outside f n
      ∙ sym (total-suc _ n ∙ (ap (λ b. total (term f (number_outside outside) 1) n + cond b (choose (number_outside outside n) (count_below f n + 1)) 0) fails ∙ omega arith)))
]

-- ---- a stone of f goes from v to u

module _ (f g : ℕ → Bool) (u v : ℕ) (free : f u ≡ false) (here : f v ≡ true) (there : g u ≡ true) (gone : g v ≡ false)
    (rest : (p : ℕ) → p ≢ u → p ≢ v → g p ≡ f p) where
  abbrev one : (ℕ → Bool) → ℕ → ℕ
  one h p = cond {A = ℕ} (h p) 1 0

  counted : (h : ℕ → Bool) (n : ℕ) → count_below h n ≡ total (one h) n
  counted h zero = count-none h ∙ sym (total-zero _)
  counted h (suc n) = elim (cases_Bool (h n)) [
    | inl y ↦ let e : one h n ≡ 1 = rw y refl in omega (arith, count-yes h n y, counted h n, total-suc (one h) n)
    | inr fails ↦ let e : one h n ≡ 0 = rw fails refl in omega (arith, count-no h n fails, counted h n, total-suc (one h) n)
  ]

  one_rest : (p : ℕ) → p ≢ u → p ≢ v → one g p ≡ one f p
  one_rest p d e = ap (λ b. cond {A = ℕ} b 1 0) (rest p d e)

  -- downwards: the stones between stand a place later
  module _ (down : u < v) where
    pub count_low : (n : ℕ) → n ≤ u → count_below g n ≡ count_below f n
    count_low n h = omega (
      arith,
      counted g n,
      counted f n,
      total-zero (one f),
      total-zero (one g),
      alike (one g) (one f) 0 n (omega arith) (λ p l k. one_rest p (omega arith) (omega arith)),
    )

    pub count_between : (n : ℕ) → u < n → n ≤ v → count_below g n ≡ suc (count_below f n)
    count_between n l h =
        let gu : one g u ≡ 1 = rw there refl in
        let fu : one f u ≡ 0 = rw free refl in
        omega (
          arith,
          counted g n,
          counted f n,
          counted g u,
          counted f u,
          count_low u (omega arith),
          total-suc (one f) u,
          total-suc (one g) u,
          alike (one g) (one f) (suc u) n (omega arith) (λ p a k. one_rest p (omega arith) (omega arith)),
        )

    pub count_high : (n : ℕ) → v < n → count_below g n ≡ count_below f n
    count_high n l =
        let gv : one g v ≡ 0 = rw gone refl in
        let fv : one f v ≡ 1 = rw here refl in
        omega (
          arith,
          counted g n,
          counted f n,
          counted g v,
          counted f v,
          count_between v down (omega arith),
          total-suc (one f) v,
          total-suc (one g) v,
          alike (one g) (one f) (suc v) n (omega arith) (λ p a k. one_rest p (omega arith) (omega arith)),
        )

    pub moved_down : (number : ℕ → ℕ) (n : ℕ) → v < n
        → total (term g number 1) n + (total (term f number 2) u + total (term f number 1) (suc v))
        ≡ total (term f number 1) u + (choose (number u) (count_below f u + 1) + (total (term f number 2) v + total (term f number 1) n))
    moved_down number n l =
        let low = alike (term g number 1) (term f number 1) 0 u (omega arith) (λ p a k.
        ap₂ (λ b c. cond b (choose (number p) (c + 1)) 0) (rest p (omega arith) (omega arith)) (count_low p (omega arith))) in
        let at_u : term g number 1 u ≡ choose (number u) (count_below f u + 1) = rw (there, count_low u (omega arith)) refl in
        let none_u : term f number 2 u ≡ 0 = rw free refl in
        let between = alike (term g number 1) (term f number 2) (suc u) v (omega arith) (λ p a k.
        let c : count_below g p + 1 ≡ count_below f p + 2 = omega (arith, count_between p (omega arith) (omega arith)) in
        ap₂ (λ b c. cond b (choose (number p) c) 0) (rest p (omega arith) (omega arith)) c) in
        let none_v : term g number 1 v ≡ 0 = rw gone refl in
        let high = alike (term g number 1) (term f number 1) (suc v) n (omega arith) (λ p a k.
        ap₂ (λ b c. cond b (choose (number p) (c + 1)) 0) (rest p (omega arith) (omega arith)) (count_high p (omega arith))) in
        omega (
          arith,
          low,
          at_u,
          none_u,
          between,
          none_v,
          high,
          total-zero (term g number 1),
          total-zero (term f number 1),
          total-suc (term g number 1) u,
          total-suc (term f number 2) u,
          total-suc (term g number 1) v,
        )

-- upwards: the stones between stand a place earlier, as if that stone came back downwards
module _ (f g : ℕ → Bool) (u v : ℕ) (free : f u ≡ false) (here : f v ≡ true) (there : g u ≡ true) (gone : g v ≡ false)
    (rest : (p : ℕ) → p ≢ u → p ≢ v → g p ≡ f p) where
  back : (p : ℕ) → p ≢ v → p ≢ u → f p ≡ g p
  back p d e = sym (rest p e d)

  module _ (up : v < u) where
    pub count_low' : (n : ℕ) → n ≤ v → count_below g n ≡ count_below f n
    count_low' n h = sym (count_low g f v u gone there here free back up n h)

    pub count_between' : (n : ℕ) → v < n → n ≤ u → suc (count_below g n) ≡ count_below f n
    count_between' n l h = sym (count_between g f v u gone there here free back up n l h)

    pub count_high' : (n : ℕ) → u < n → count_below g n ≡ count_below f n
    count_high' n l = sym (count_high g f v u gone there here free back up n l)

    pub moved_up : (number : ℕ → ℕ) (n : ℕ) → u < n
        → total (term g number 1) n + (total (term f number 0) (suc v) + total (term f number 1) u)
        ≡ total (term f number 1) v + (choose (number u) (count_below f u) + (total (term f number 0) u + total (term f number 1) n))
    moved_up number n l =
        let low = alike (term g number 1) (term f number 1) 0 v (omega arith) (λ p a k.
        ap₂ (λ b c. cond b (choose (number p) (c + 1)) 0) (rest p (omega arith) (omega arith)) (count_low' p (omega arith))) in
        let none_v : term g number 1 v ≡ 0 = rw gone refl in
        let between = alike (term g number 1) (term f number 0) (suc v) u (omega arith) (λ p a k.
        let c : count_below g p + 1 ≡ count_below f p + 0 = omega (arith, count_between' p (omega arith) (omega arith)) in
        ap₂ (λ b c. cond b (choose (number p) c) 0) (rest p (omega arith) (omega arith)) c) in
        let c : count_below g u + 1 ≡ count_below f u = omega (arith, count_between' u up (omega arith)) in
        let at_u : term g number 1 u ≡ choose (number u) (count_below f u) = rw (there, c) refl in
        let none_u : term f number 1 u ≡ 0 = rw free refl in
        let high = alike (term g number 1) (term f number 1) (suc u) n (omega arith) (λ p a k.
        ap₂ (λ b c. cond b (choose (number p) (c + 1)) 0) (rest p (omega arith) (omega arith)) (count_high' p (omega arith))) in
        omega (
          arith,
          low,
          none_v,
          between,
          at_u,
          none_u,
          high,
          total-zero (term g number 1),
          total-zero (term f number 1),
          total-suc (term g number 1) v,
          total-suc (term g number 1) u,
          total-suc (term f number 1) u,
        )

-- ---- the stones that stay, renumbered in an interval

pub renumbered : (f : ℕ → Bool) (number other new : ℕ → ℕ) (lo hi n : ℕ) → lo ≤ hi → hi ≤ n
    → ((p : ℕ) → f p ≡ true → p < lo → new p ≡ number p)
    → ((p : ℕ) → f p ≡ true → lo ≤ p → p < hi → new p ≡ other p)
    → ((p : ℕ) → f p ≡ true → hi ≤ p → new p ≡ number p)
    → total (term f new 1) n + (total (term f other 1) lo + total (term f number 1) hi)
    ≡ total (term f number 1) lo + (total (term f other 1) hi + total (term f number 1) n)
renumbered f number other new lo hi n h k low mid high =
    omega (
      arith,
      total-zero (term f new 1),
      total-zero (term f number 1),
      alike (term f new 1) (term f number 1) 0 lo (omega arith) (λ p a b. same p number (λ e. low p e b)),
      alike (term f new 1) (term f other 1) lo hi h (λ p a b. same p other (λ e. mid p e a b)),
      alike (term f new 1) (term f number 1) hi n k (λ p a b. same p number (λ e. high p e a)),
    )
  where
    same : (p : ℕ) (to : ℕ → ℕ) → (f p ≡ true → new p ≡ to p) → term f new 1 p ≡ term f to 1 p
    same p to e = elim (cases_Bool (f p)) [
      | inl y ↦ rw (y, e y) refl
      | inr fails ↦ rw fails refl
    ]
