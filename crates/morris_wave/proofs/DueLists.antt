-- One node more in the lists of what comes due, and a list that is let go.
use Rattle.std.proofs.Common.{◌≡◌, ℕ, ◌+◌, ◌<◌, ◌≤◌, false, ◌&&◌, cond, eqb, ltb, List, [], ◌∷◌, ◌++◌, length, set, sym, ap, ◌∙◌, subst, ⊎_elim, arith, get_or-set_same, get_or-set_other, length-set}
use Rattle.std.specs.List.{All}
use Rattle.std.proofs.lemmas.Bool.{cases_eq, cases_lt, and_right, cond-false, ne_eqb}
use Rattle.std.proofs.lemmas.Bool.Decides.{nat_tests}
use Rattle.std.proofs.lemmas.List.{get_or_past}
use Rattle.std.proofs.lemmas.List.Elements.{All-push, All-nil}
use Rattle.std.proofs.lemmas.List.Sums.{sum_by_push}
use Rattle.morris_wave.specs.Nets.{times}
use Rattle.morris_wave.specs.Lists.{list_at}
use Rattle.morris_wave.specs.NodeRanges.{ListsDue}
use Rattle.morris_wave.proofs.Ranks.{times_none}

-- a node past those of a list isn't there
past : (first count : ℕ) (nodes : List ℕ) → All (λ i. (first ≤ i) × (i < first + count)) nodes → times (first + count) nodes ≡ 0
past first count nodes inside = times_none (first + count) nodes (λ p l e. omega (arith, (inside p 0 l).1, e))

further : (first count : ℕ) (nodes : List ℕ) → All (λ i. (first ≤ i) × (i < first + count)) nodes → All (λ i. (first ≤ i) × (i < first + (count + 1))) nodes
further first count nodes inside p d l = let w = inside p d l in (w.0, omega (arith, w.1))

pub due_none : (f : ℕ → ℕ) (first : ℕ) (due : List (List ℕ)) → ((n : ℕ) → list_at due n ≡ []) → ListsDue f 0 first 0 due
due_none f first due empty = record {
  inside = λ n. subst (λ xs. All (λ i. (first ≤ i) × (i < first + 0)) xs) (sym (empty n)) (All-nil (λ i. (first ≤ i) × (i < first + 0)));
  once = λ n k s l. absurd (omega (arith, l));
}

module _ (f : ℕ → ℕ) (first count : ℕ) (due : List (List ℕ)) (h : ListsDue f 0 first count due) where
  -- a node that never comes due
  pub due_skip : f count ≡ 0 → ListsDue f 0 first (count + 1) due
  due_skip never = record {
    inside = λ n. further first count (list_at due n) (h.inside n);
    once = λ n k s l.
        ⊎_elim
        (λ e. subst (λ x. times (first + x) (list_at due n) ≡ cond {A = ℕ} (ltb 0 n && eqb (f x) n) 1 0) e
        (past first count (list_at due n) (h.inside n)
        ∙ sym (cond-false {A = ℕ} (ltb 0 n && eqb (f count) n) 1 0 (not_due n))))
        (λ e. h.once n k s (omega (arith, l, e)))
        (cases_eq count k);
  }
    where
      not_due : (n : ℕ) → (ltb 0 n && eqb (f count) n) ≡ false
      not_due n = grind (arith, nat_tests)

  -- one that does, put at the end of its wave's list
  pub due_more : 0 < f count → f count < length due → ListsDue f 0 first (count + 1) (set due (f count) (list_at due (f count) ++ (first + count) ∷ []))
  due_more some within = record {
    inside = λ n.
        ⊎_elim
        (λ e. subst (λ x. All (λ i. (first ≤ i) × (i < first + (count + 1))) (list_at new x)) e
        (subst (λ xs. All (λ i. (first ≤ i) × (i < first + (count + 1))) xs) (sym same)
        (All-push (λ i. (first ≤ i) × (i < first + (count + 1))) (list_at due (f count)) (first + count) (further first count (list_at due (f count)) (h.inside (f count))) (omega arith, omega arith))))
        (λ e. subst (λ xs. All (λ i. (first ≤ i) × (i < first + (count + 1))) xs) (sym (other n e)) (further first count (list_at due n) (h.inside n)))
        (cases_eq (f count) n);
    once = λ n k s l.
        ⊎_elim
        (λ at. subst (λ x. times (first + k) (list_at new x) ≡ cond {A = ℕ} (ltb 0 x && eqb (f k) x) 1 0) at (here k l))
        (λ at. ap (times (first + k)) (other n at)
        ∙ ⊎_elim
        (λ e. subst (λ x. times (first + x) (list_at due n) ≡ cond {A = ℕ} (ltb 0 n && eqb (f x) n) 1 0) e
        (past first count (list_at due n) (h.inside n)
        ∙ sym (cond-false {A = ℕ} (ltb 0 n && eqb (f count) n) 1 0 (and_right (ltb 0 n) (eqb (f count) n) (ne_eqb (f count) n at)))))
        (λ e. h.once n k s (omega (arith, l, e)))
        (cases_eq count k))
        (cases_eq (f count) n);
  }
    where
      new : List (List ℕ)
      new = set due (f count) (list_at due (f count) ++ (first + count) ∷ [])

      same : list_at new (f count) ≡ list_at due (f count) ++ (first + count) ∷ []
      same = get_or-set_same due (f count) (list_at due (f count) ++ (first + count) ∷ []) [] within

      other : (n : ℕ) → (f count ≡ n → ⊥) → list_at new n ≡ list_at due n
      other n e = get_or-set_other due (f count) n (list_at due (f count) ++ (first + count) ∷ []) [] (λ z. e (sym z))

      pushed : (k : ℕ) → times (first + k) (list_at due (f count) ++ (first + count) ∷ []) ≡ times (first + k) (list_at due (f count)) + cond {A = ℕ} (eqb (first + count) (first + k)) 1 0
      pushed k = sum_by_push (λ x. cond {A = ℕ} (eqb x (first + k)) 1 0) (list_at due (f count)) (first + count)

      here : (k : ℕ) → k < count + 1 → times (first + k) (list_at new (f count)) ≡ cond {A = ℕ} (ltb 0 (f count) && eqb (f k) (f count)) 1 0
      here k l =
          grind (arith, nat_tests, ap (times (first + k)) same, pushed k, past first count (list_at due (f count)) (h.inside (f count)), h.once (f count) k (omega arith))

-- the list of a wave is let go
module _ (due : List (List ℕ)) (t : ℕ) where
  gone_same : list_at (set due t []) t ≡ []
  gone_same =
      ⊎_elim
      (λ (l : t < length due). get_or-set_same due t [] [] l)
      (λ (l : length due ≤ t). get_or_past (set due t []) t [] (omega (arith, length-set due t [], l)))
      (cases_lt t (length due))

  gone_other : (n : ℕ) → (t ≡ n → ⊥) → list_at (set due t []) n ≡ list_at due n
  gone_other n ne = get_or-set_other due t n [] [] (λ z. ne (sym z))

  -- what is so of no nodes and of each list is so of the lists that are left
  pub gone_keeps : (P : List ℕ → Type 0) → P [] → (n : ℕ) → P (list_at due n) → P (list_at (set due t []) n)
  gone_keeps P none n some =
      ⊎_elim
      (λ e. subst (λ x. P (list_at (set due t []) x)) e (subst P (sym gone_same) none))
      (λ e. subst P (sym (gone_other n e)) some)
      (cases_eq t n)

  pub due_gone : (f : ℕ → ℕ) (first count : ℕ) → ListsDue f t first count due → ListsDue f (t + 1) first count (set due t [])
  due_gone f first count h = record {
    inside = λ n. gone_keeps (λ xs. All (λ i. (first ≤ i) × (i < first + count)) xs) (All-nil (λ i. (first ≤ i) × (i < first + count))) n (h.inside n);
    once = λ n k s l. ap (times (first + k)) (gone_other n (λ e. omega (arith, e, s))) ∙ h.once n k (omega (arith, s)) l;
  }
