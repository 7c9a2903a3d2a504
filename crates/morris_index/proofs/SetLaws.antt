-- Laws of sets of points that the numbering needs: the points of a set below a point, and a set
-- with a new least point.
use Rattle.std.proofs.Common.{◌≡◌, ℕ, zero, suc, ◌+◌, ◌-◌, ◌^◌, ◌<◌, ◌≤◌, Bool, true, false, ◌&&◌, ◌||◌, ltb, List, [], ◌∷◌, ◌++◌, length, filter, refl, sym, ◌∙◌, ap, inl, inr, arith}
use Rattle.std.specs.List.{range_with_len}
use Rattle.std.proofs.lemmas.Bool.{cases_Bool, cases_eq, eq-eqb, ne_eqb, lt-ltb, le-ltb, and_right}
use Rattle.morris_board.specs.Sets.{has, members, count_of, with_point, without_point}
use Rattle.morris_board.proofs.PointsLaws.{has-with, has-without, same_points, members-first}
use Rattle.morris_index.proofs.RankLaws.{passing, count_below, passing-yes, passing-no, passing-above, members-passing}

pub or_false : (b : Bool) → (b || false) ≡ b
or_false true = refl
or_false false = refl

-- ---- counting

pub count_of-below : (s n : ℕ) → s < 2 ^ n → n ≤ 32 → count_of s ≡ count_below (has s) n
unfolding count_of count_below
count_of-below s n within low = ap length (members-passing s n within low)

module _ (f : ℕ → Bool) where
  -- the numbers that pass, and of these the ones below p
  filter-passing : (p n : ℕ) → filter (λ k. ltb k p) (passing f n) ≡ passing (λ k. f k && ltb k p) n
  filter-passing p n = both (range_with_len 0 n)
    where
      both : (ks : List ℕ) → filter (λ k. ltb k p) (filter f ks) ≡ filter (λ k. f k && ltb k p) ks
      both [] = refl
      both (k ∷ ks) = elim (cases_Bool (f k)) [
        | inl h ↦ rw h (elim (cases_Bool (ltb k p)) [ inl l ↦ rw l (ap (λ t. k ∷ t) (both ks)) | inr l ↦ rw l (both ks) ])
        | inr h ↦ rw h (both ks)
      ]

  passing-below : (p n : ℕ) → n ≤ p → passing (λ k. f k && ltb k p) n ≡ passing f n
  passing-below p zero low = refl
  passing-below p (suc n) low =
      let here : (f n && ltb n p) ≡ f n = rw (lt-ltb n p (omega arith)) (elim (cases_Bool (f n)) [ inl h ↦ rw h refl | inr h ↦ rw h refl ]) in
      elim (cases_Bool (f n)) [
        | inl h ↦
            passing-yes (λ k. f k && ltb k p) n (here ∙ h) ∙ ap (λ t. t ++ n ∷ []) (passing-below p n (omega arith)) ∙ sym (passing-yes f n h)
        | inr h ↦ passing-no (λ k. f k && ltb k p) n (here ∙ h) ∙ passing-below p n (omega arith) ∙ sym (passing-no f n h)
      ]

  pub passing_less : (p n : ℕ) → p ≤ n → filter (λ k. ltb k p) (passing f n) ≡ passing f p
  passing_less p n low =
      let e : n ≡ (n - p) + p = omega arith in
      filter-passing p n
      ∙ ap (passing (λ k. f k && ltb k p)) e
      ∙ passing-above (λ k. f k && ltb k p) p (n - p) (λ k h. and_right (f k) (ltb k p) (le-ltb k p h))
      ∙ passing-below p p (omega arith)

pub count_below_members : (s p : ℕ) → p ≤ 32 → length (filter (λ k. ltb k p) (members s)) ≡ count_below (has s) p
unfolding members count_below
count_below_members s p low = ap length (passing_less (has s) p 32 low)

-- ---- a new point

-- a new point below all others is the first
pub members-with : (s p : ℕ) → p < 32 → ((k : ℕ) → has s k ≡ true → p < k) → members (with_point s p) ≡ p ∷ members s
members-with s p low above =
    members-first (with_point s p) p low here below ∙ ap (λ t. p ∷ members t) (same_points _ _ same)
  where
    not_below : (k : ℕ) → k ≤ p → has s k ≡ false
    not_below k h = elim (cases_Bool (has s k)) [
      | inl y ↦ absurd (omega (arith, above k y))
      | inr y ↦ y
    ]

    here : has (with_point s p) p ≡ true
    here = has-with s p p ∙ rw (not_below p (omega arith), eq-eqb p p refl) refl

    below : (k : ℕ) → k < p → has (with_point s p) k ≡ false
    below k h = has-with s p k ∙ rw (not_below k (omega arith), ne_eqb k p (omega arith)) refl

    same : (k : ℕ) → has (without_point (with_point s p) p) k ≡ has s k
    same k = elim (cases_eq k p) [
      | inl e ↦ rw e (has-without (with_point s p) p p ∙ rw (eq-eqb p p refl, not_below p (omega arith)) refl)
      | inr d ↦ has-without (with_point s p) p k ∙ rw (ne_eqb k p d, has-with s p k, ne_eqb k p d) (or_false (has s k))
    ]
