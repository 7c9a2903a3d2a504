-- The value of a position: what is lost or won within n plies stays so, is never both, and has one
-- depth, even where lost and odd where won.
use Rattle.std.proofs.Common.{◌≡◌, ℕ, zero, suc, ◌+◌, ◌-◌, ◌*◌, ◌/◌, ◌%◌, ◌<◌, ◌≤◌, true, false, refl, sym, ap, subst, ◌∙◌, inl, inr, ◌⊎◌, arith}
use Rattle.std.proofs.lemmas.Bool.{cases_Bool, cases_eq, cases_lt, both_ways}
use Rattle.std.specs.List.{list_all, list_any}
use Rattle.morris_board.specs.Boards.{Shape}
use Rattle.morris_board.specs.Positions.{Sides}
use Rattle.morris_moves.specs.declared.within.Within.{Within}
use Rattle.morris_moves.specs.declared.within.Within.TheVariants.{Lost, Won, Unknown}
use Rattle.morris_moves.specs.Rules.{moves_of, result_of}
use Rattle.morris_moves.specs.Values.{is_lost, is_won, IsOpen, IsLostIn, IsWonIn, IsDraw, AnswersWithin}
use Rattle.morris_moves.proofs.ListLaws.{all_contained, contained_all, any_contained, contained_any, all_same, any_same}

module _ (b : Shape) where
  -- ---- the definition, at a number that isn't 0

  pub lost_now : (s : Sides) (n : ℕ) → n ≡ 0 → is_lost n b s ≡ list_all (λ m. false) (moves_of b s)
  unfolding is_lost
  lost_now s n e = rw e refl

  pub won_now : (s : Sides) (n : ℕ) → n ≡ 0 → is_won n b s ≡ false
  unfolding is_won
  won_now s n e = rw e refl

  pub lost_next : (s : Sides) (n : ℕ) → 0 < n → is_lost n b s ≡ list_all (λ m. is_won (n - 1) b (result_of s m)) (moves_of b s)
  unfolding is_lost
  lost_next s zero some = absurd (omega arith)
  lost_next s (suc n) some = let e : suc n - 1 ≡ n = omega arith in rw e refl

  pub won_next : (s : Sides) (n : ℕ) → 0 < n → is_won n b s ≡ list_any (λ m. is_lost (n - 1) b (result_of s m)) (moves_of b s)
  unfolding is_won
  won_next s zero some = absurd (omega arith)
  won_next s (suc n) some = let e : suc n - 1 ≡ n = omega arith in rw e refl

  -- ---- what is known within n plies is known within more

  one_more : (n : ℕ) (s : Sides) → (is_lost n b s ≡ true → is_lost (suc n) b s ≡ true) × (is_won n b s ≡ true → is_won (suc n) b s ≡ true)
  unfolding is_lost is_won
  one_more zero s = ((λ h. h), (λ h. absurd (both_ways false refl h)))
  one_more (suc n) s = (
    (λ h. contained_all (λ m. is_won (suc n) b (result_of s m)) (moves_of b s)
        (λ m c. (one_more n (result_of s m)).1 (all_contained (λ m. is_won n b (result_of s m)) (moves_of b s) h m c))),
    (λ h. let r = any_contained (λ m. is_lost n b (result_of s m)) (moves_of b s) h in
        contained_any (λ m. is_lost (suc n) b (result_of s m)) (moves_of b s) r.0 r.1 ((one_more n (result_of s r.0)).0 r.2)),
  )

  pub lost_longer : (s : Sides) (n k : ℕ) → n ≤ k → is_lost n b s ≡ true → is_lost k b s ≡ true
  lost_longer s n zero le h = let e : n ≡ zero = omega arith in subst (λ x. is_lost x b s ≡ true) e h
  lost_longer s n (suc k) le h = elim (cases_eq n (suc k)) [
    | inl e ↦ subst (λ x. is_lost x b s ≡ true) e h
    | inr differ ↦ (one_more k s).0 (lost_longer s n k (omega arith) h)
  ]

  pub won_longer : (s : Sides) (n k : ℕ) → n ≤ k → is_won n b s ≡ true → is_won k b s ≡ true
  won_longer s n zero le h = let e : n ≡ zero = omega arith in subst (λ x. is_won x b s ≡ true) e h
  won_longer s n (suc k) le h = elim (cases_eq n (suc k)) [
    | inl e ↦ subst (λ x. is_won x b s ≡ true) e h
    | inr differ ↦ (one_more k s).1 (won_longer s n k (omega arith) h)
  ]

  -- ---- never both

  not_both : (n : ℕ) (s : Sides) → is_lost n b s ≡ true → is_won n b s ≡ true → ⊥
  unfolding is_lost is_won
  not_both zero s lost won = both_ways false refl won
  not_both (suc n) s lost won =
      let r = any_contained (λ m. is_lost n b (result_of s m)) (moves_of b s) won in
      not_both n (result_of s r.0) r.2 (all_contained (λ m. is_won n b (result_of s m)) (moves_of b s) lost r.0 r.1)

  pub never_both : (s : Sides) (n k : ℕ) → is_lost n b s ≡ true → is_won k b s ≡ true → ⊥
  never_both s n k lost won = not_both (n + k) s (lost_longer s n (n + k) (omega arith) lost) (won_longer s k (n + k) (omega arith) won)

  -- ---- one value

  pub lost_once : (s : Sides) (d e : ℕ) → IsLostIn b s d → IsLostIn b s e → d ≡ e
  lost_once s d e p q = elim (cases_eq d e) [
    | inl same ↦ same
    | inr differ ↦ elim (cases_lt d e) [
      | inl low ↦ absurd (both_ways _ (q.least d low).not_lost p.lost)
      | inr high ↦ absurd (both_ways _ (p.least e (omega arith)).not_lost q.lost)
    ]
  ]

  pub won_once : (s : Sides) (d e : ℕ) → IsWonIn b s d → IsWonIn b s e → d ≡ e
  won_once s d e p q = elim (cases_eq d e) [
    | inl same ↦ same
    | inr differ ↦ elim (cases_lt d e) [
      | inl low ↦ absurd (both_ways _ (q.least d low).not_won p.won)
      | inr high ↦ absurd (both_ways _ (p.least e (omega arith)).not_won q.won)
    ]
  ]

  pub lost_not_won : (s : Sides) (d e : ℕ) → IsLostIn b s d → IsWonIn b s e → ⊥
  lost_not_won s d e p q = never_both s d e p.lost q.won

  pub lost_no_draw : (s : Sides) (d : ℕ) → IsLostIn b s d → IsDraw b s → ⊥
  lost_no_draw s d p q = both_ways _ (q.never d).not_lost p.lost

  pub won_no_draw : (s : Sides) (d : ℕ) → IsWonIn b s d → IsDraw b s → ⊥
  won_no_draw s d p q = both_ways _ (q.never d).not_won p.won

  -- ---- a depth of a loss is even, and one of a win is odd

  twice : ℕ → ℕ
  twice zero = zero
  twice (suc k) = suc (suc (twice k))

  by_twos : (k : ℕ) (s : Sides)
      → (is_lost (suc (twice k)) b s ≡ is_lost (twice k) b s) × (is_won (suc (suc (twice k))) b s ≡ is_won (suc (twice k)) b s)
  unfolding is_lost is_won twice
  by_twos zero s = (refl, refl)
  by_twos (suc k) s =
      let lost : (t : Sides) → is_lost (suc (twice (suc k))) b t ≡ is_lost (twice (suc k)) b t =
      λ t. all_same (λ m. is_won (suc (suc (twice k))) b (result_of t m)) (λ m. is_won (suc (twice k)) b (result_of t m)) (moves_of b t)
      (λ m. (by_twos k (result_of t m)).1) in (
        lost s,
        any_same (λ m. is_lost (suc (twice (suc k))) b (result_of s m)) (λ m. is_lost (twice (suc k)) b (result_of s m)) (moves_of b s)
            (λ m. lost (result_of s m)),
      )

  twice_is : (k : ℕ) → twice k ≡ 2 * k
  unfolding twice
  twice_is zero = refl
  twice_is (suc k) = omega (arith, twice_is k)

  -- one ply more than an even number makes no loss
  pub lost_by_even : (s : Sides) (n : ℕ) → n % 2 ≡ 0 → is_lost (suc n) b s ≡ is_lost n b s
  lost_by_even s n e =
      let same : twice (n / 2) ≡ n = omega (arith, twice_is (n / 2)) in
      subst (λ x. is_lost (suc x) b s ≡ is_lost x b s) same (by_twos (n / 2) s).0

  -- one ply more than an odd number makes no win
  pub won_by_odd : (s : Sides) (n : ℕ) → n % 2 ≡ 1 → is_won (suc n) b s ≡ is_won n b s
  won_by_odd s n e =
      let same : suc (twice (n / 2)) ≡ n = omega (arith, twice_is (n / 2)) in
      subst (λ x. is_won (suc x) b s ≡ is_won x b s) same (by_twos (n / 2) s).1

  pub lost_is_even : (s : Sides) (d : ℕ) → IsLostIn b s d → d % 2 ≡ 0
  lost_is_even s zero p = refl
  lost_is_even s (suc d) p = elim (cases_eq (d % 2) 0) [
    | inl e ↦ absurd (both_ways _ (p.least d (omega arith)).not_lost (sym (lost_by_even s d e) ∙ p.lost))
    | inr differ ↦ omega arith
  ]

  pub won_is_odd : (s : Sides) (d : ℕ) → IsWonIn b s d → d % 2 ≡ 1
  unfolding is_won
  won_is_odd s zero p = absurd (both_ways false refl p.won)
  won_is_odd s (suc d) p = elim (cases_eq (d % 2) 1) [
    | inl e ↦ absurd (both_ways _ (p.least d (omega arith)).not_won (sym (won_by_odd s d e) ∙ p.won))
    | inr differ ↦ omega arith
  ]

  -- ---- a search, one ply more at a time

  abbrev pub IsOpenBelow : Sides → ℕ → Type 0
  IsOpenBelow s n = (k : ℕ) → k < n → IsOpen b s k

  -- an even depth is open where it is no loss, and an odd one where it is no win
  pub open_even : (s : Sides) (d : ℕ) → d % 2 ≡ 0 → IsOpenBelow s d → is_lost d b s ≡ false → IsOpen b s d
  unfolding is_won
  open_even s zero even before none = record { not_lost = none; not_won = refl }
  open_even s (suc d) even before none = record {
    not_lost = none;
    not_won = won_by_odd s d (omega arith) ∙ (before d (omega arith)).not_won;
  }

  pub open_odd : (s : Sides) (d : ℕ) → d % 2 ≡ 1 → IsOpenBelow s d → is_won d b s ≡ false → IsOpen b s d
  open_odd s zero odd before none = absurd (omega arith)
  open_odd s (suc d) odd before none = record {
    not_lost = lost_by_even s d (omega arith) ∙ (before d (omega arith)).not_lost;
    not_won = none;
  }

  -- a position is open at each n up to some number, or it is lost or won in some d below
  pub searched : (s : Sides) (n : ℕ) → (IsOpenBelow s n) ⊎ ((d : ℕ) × (d < n) × (IsLostIn b s d ⊎ IsWonIn b s d))
  searched s zero = inl (λ k low. absurd (omega arith))
  searched s (suc n) = elim (searched s n) [
    | inl before ↦ elim (cases_Bool (is_lost n b s)) [
      | inl lost ↦ inr (n, omega arith, inl (record { lost = lost; least = before }))
      | inr none ↦ elim (cases_Bool (is_won n b s)) [
        | inl won ↦ inr (n, omega arith, inr (record { won = won; least = before }))
        | inr neither ↦ inl (λ k low. elim (cases_eq k n) [
          | inl e ↦ subst (λ x. IsOpen b s x) (sym e) (record { not_lost = none; not_won = neither })
          | inr differ ↦ before k (omega arith)
        ])
      ]
    ]
    | inr found ↦ inr (found.0, omega (arith, found.1), found.2)
  ]

  -- ---- an answer is the only one

  pub answer_lost : (s : Sides) (n : ℕ) (r : Within) → AnswersWithin b s n r → (d : ℕ) → d ≤ n → IsLostIn b s d → r ≡ Lost d
  answer_lost s n (Lost e) a d low p = ap Lost (lost_once s e d a.1 p)
  answer_lost s n (Won e) a d low p = absurd (lost_not_won s d e p a.1)
  answer_lost s n Unknown a d low p = absurd (both_ways _ (a d low).not_lost p.lost)

  pub answer_won : (s : Sides) (n : ℕ) (r : Within) → AnswersWithin b s n r → (d : ℕ) → d ≤ n → IsWonIn b s d → r ≡ Won d
  answer_won s n (Lost e) a d low p = absurd (lost_not_won s e d a.1 p)
  answer_won s n (Won e) a d low p = ap Won (won_once s e d a.1 p)
  answer_won s n Unknown a d low p = absurd (both_ways _ (a d low).not_won p.won)
