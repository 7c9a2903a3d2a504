-- Laws of the table of transversals.
use Rattle.std.proofs.Common.{◌≡◌, ℕ, ◌+◌, List, [], ◌∷◌, ◌++◌, sym, ◌∙◌, subst, inl, inr, arith, length-append}
use Rattle.std.proofs.lemmas.Bool.{cases_eq}
use Rattle.std.proofs.lemmas.List.{get_or_push, get_or_append_left}
use Rattle.morris_board.specs.Boards.{Shape}
use Rattle.morris_board.specs.Sets.{count_of}
use Rattle.morris_index.specs.Classes.{representative_of, class_of}
use Rattle.morris_index.specs.Unmoves.{IsTransversal, AreTransversals}
use Rattle.morris_index.proofs.ClassLaws.{test_from, class_alone}

module _ (board : Shape) (n count : ℕ) where
  pub transversal-none : AreTransversals board n count 0 []
  transversal-none = record {
    len = omega arith;
    each = λ set within counted own low. absurd (omega arith);
  }

  -- representatives of the same class are the same
  alone : (a b : ℕ) → count_of a ≡ count → count_of b ≡ count → representative_of board a ≡ a → representative_of board b ≡ b → class_of board a ≡ class_of board b → a ≡ b
  unfolding class_of
  alone a b a_count b_count a_own b_own same =
      class_alone board count a b (test_from board count a a_own a_count) (test_from board count b b_own b_count)
      (rw (a_count, b_count, a_own, b_own) at same)

  pub transversal-more : (class set : ℕ) (x : ℕ) (table : List ℕ) → AreTransversals board n count class table → count_of set ≡ count
      → representative_of board set ≡ set → class_of board set ≡ class → IsTransversal board set x → AreTransversals board n count (class + 1) (table ++ x ∷ [])
  transversal-more class set x table k counted own is returns = record {
    len = omega (arith, length-append table (x ∷ []), k.len);
    each = λ t within t_counted t_own low d. elim (cases_eq (class_of board t) class) [
      | inl e ↦
          let same : t ≡ set = alone t set t_counted counted t_own own (e ∙ sym is) in
          subst (IsTransversal board t) (sym (get_or_push table x d (class_of board t) (k.len ∙ sym e)))
          (subst (λ r. IsTransversal board r x) (sym same) returns)
      | inr other ↦
          subst (IsTransversal board t) (sym (get_or_append_left table (x ∷ []) d (class_of board t) (omega (arith, k.len))))
          (k.each t within t_counted t_own (omega arith) d)
    ];
  }
