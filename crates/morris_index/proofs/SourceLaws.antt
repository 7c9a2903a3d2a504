-- The points of a set below a point, and its other points.
use Rattle.std.proofs.Common.{◌≡◌, ℕ, zero, suc, ◌≤◌, Bool, false, not, ◌&&◌, ltb, List, [], ◌∷◌, ◌++◌, refl, sym, ◌∙◌, ap, ap₂, inl, inr, arith, append_assoc}
use Rattle.std.proofs.lemmas.Bool.{cases_Bool, cases_lt, lt-ltb, le-ltb, and_right}
use Rattle.std.proofs.lemmas.List.{append-nil}
use Rattle.morris_board.specs.Sets.{has, members}
use Rattle.morris_index.proofs.RankLaws.{passing, passing-yes, passing-no}

module _ (f below rest : ℕ → Bool) (k : ℕ) (is_below : (p : ℕ) → below p ≡ (f p && ltb p k)) (is_rest : (p : ℕ) → rest p ≡ (f p && not (ltb p k))) where
  none_below : (n : ℕ) → n ≤ k → passing rest n ≡ []
  none_below zero low = refl
  none_below (suc n) low =
      passing-no rest n (is_rest n ∙ (ap (λ b. f n && not b) (lt-ltb n k (omega arith)) ∙ and_right (f n) false refl)) ∙ none_below n (omega arith)

  passing-split : (n : ℕ) → passing below n ++ passing rest n ≡ passing f n
  passing-split zero = refl
  passing-split (suc n) = elim (cases_Bool (f n)) [
    | inr no_ ↦
        let low : passing below (suc n) ≡ passing below n = passing-no below n (is_below n ∙ ap (λ b. b && ltb n k) no_) in
        let high : passing rest (suc n) ≡ passing rest n = passing-no rest n (is_rest n ∙ ap (λ b. b && not (ltb n k)) no_) in
        ap₂ (λ (xs : List ℕ) (ys : List ℕ). xs ++ ys) low high ∙ (passing-split n ∙ sym (passing-no f n no_))
    | inl y ↦ elim (cases_lt n k) [
      | inl l ↦
          let low : passing below (suc n) ≡ passing below n ++ n ∷ [] = passing-yes below n (is_below n ∙ ap₂ (λ a b. a && b) y (lt-ltb n k l)) in
          let none : passing rest n ≡ [] = none_below n (omega arith) in
          let all : passing below n ≡ passing f n =
          sym (append-nil (passing below n)) ∙ (ap (λ (xs : List ℕ). passing below n ++ xs) (sym none) ∙ passing-split n) in
          ap₂ (λ (xs : List ℕ) (ys : List ℕ). xs ++ ys) low (none_below (suc n) (omega arith))
          ∙ (append-nil (passing below n ++ n ∷ []) ∙ (ap (λ (xs : List ℕ). xs ++ n ∷ []) all ∙ sym (passing-yes f n y)))
      | inr g ↦
          let low : passing below (suc n) ≡ passing below n = passing-no below n (is_below n ∙ ap₂ (λ a b. a && b) y (le-ltb n k g)) in
          let high : passing rest (suc n) ≡ passing rest n ++ n ∷ [] = passing-yes rest n (is_rest n ∙ ap₂ (λ a b. a && not b) y (le-ltb n k g)) in
          ap₂ (λ (xs : List ℕ) (ys : List ℕ). xs ++ ys) low high
          ∙ (sym (append_assoc (passing below n) (passing rest n) (n ∷ []))
          ∙ (ap (λ (xs : List ℕ). xs ++ n ∷ []) (passing-split n) ∙ sym (passing-yes f n y)))
    ]
  ]

module _ (s below lower higher k : ℕ) (is : (p : ℕ) → has below p ≡ ltb p k) (is_lower : (p : ℕ) → has lower p ≡ (has s p && has below p))
    (is_higher : (p : ℕ) → has higher p ≡ (has s p && not (has below p))) where
  -- its points are those of the one, and then those of the other
  pub members-split : members lower ++ members higher ≡ members s
  unfolding members
  members-split =
      passing-split (has s) (has lower) (has higher) k (λ p. is_lower p ∙ ap (λ b. has s p && b) (is p))
      (λ p. is_higher p ∙ ap (λ b. has s p && not b) (is p)) 32
