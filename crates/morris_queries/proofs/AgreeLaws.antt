-- The value of a position in the game follows from the values of the results of its moves.
use Rattle.std.proofs.Common.{◌≡◌, ◌⊎◌, ℕ, zero, suc, true, false, List, [], ◌∷◌, map, refl, sym, ap, subst, ◌∙◌, inl, inr, arith}
use Rattle.std.specs.Prelude.{fold}
use Rattle.std.specs.List.{Contains}
use Rattle.std.proofs.lemmas.Bool.{both_ways, cases_lt}
use Rattle.morris_board.specs.Boards.{Shape}
use Rattle.morris_board.specs.Positions.{Sides}
use Rattle.morris_moves.specs.declared.game_move.Move.{Move}
use Rattle.morris_moves.specs.Rules.{moves_of, result_of}
use Rattle.morris_moves.specs.Values.{is_lost, is_won}
use Rattle.morris_moves.proofs.ListLaws.{all_contained, contained_any, Contains-head, Contains-tail, Contains-cons_cases, Contains-map, Contains-map_cases}
use Rattle.morris_moves.proofs.ValueLaws.{never_both}
use Rattle.morris_pairs.specs.declared.value.Value.{Value}
use Rattle.morris_pairs.specs.declared.value.Value.TheVariants.{Draw, Won, Lost}
use Rattle.morris_pairs.specs.Codes.{IsValue}
use Rattle.morris_probe.proofs.BestLaws.{one_value}
use Rattle.morris_probe.proofs.SomeBest.{HasValues, some_best}
use Rattle.morris_lookup.specs.declared.outcomes.Outcome.{Outcome}
use Rattle.morris_lookup.specs.Outcomes.{value_for_mover}
use Rattle.morris_lookup.proofs.OutcomeLaws.{best-value_for_mover}
use Rattle.morris_queries.specs.Exactness.{LeadsTo}
use Rattle.morris_queries.specs.Reports.{better, value_from}

-- ---- the better of two values

-- the first is no better than the second
abbrev AtMost : Value → Value → Type 0
AtMost v w = better v w ≡ w

better-comm : (v w : Value) → better v w ≡ better w v
better-comm Draw Draw = refl
better-comm Draw (Won b) = refl
better-comm Draw (Lost b) = refl
better-comm (Won a) Draw = refl
better-comm (Won a) (Won b) = ap (λ n. Won n) (omega arith)
better-comm (Won a) (Lost b) = refl
better-comm (Lost a) Draw = refl
better-comm (Lost a) (Won b) = refl
better-comm (Lost a) (Lost b) = ap (λ n. Lost n) (omega arith)

better-assoc : (u v w : Value) → better (better u v) w ≡ better u (better v w)
better-assoc Draw Draw Draw = refl
better-assoc Draw Draw (Won c) = refl
better-assoc Draw Draw (Lost c) = refl
better-assoc Draw (Won b) Draw = refl
better-assoc Draw (Won b) (Won c) = refl
better-assoc Draw (Won b) (Lost c) = refl
better-assoc Draw (Lost b) Draw = refl
better-assoc Draw (Lost b) (Won c) = refl
better-assoc Draw (Lost b) (Lost c) = refl
better-assoc (Won a) Draw Draw = refl
better-assoc (Won a) Draw (Won c) = refl
better-assoc (Won a) Draw (Lost c) = refl
better-assoc (Won a) (Won b) Draw = refl
better-assoc (Won a) (Won b) (Won c) = ap (λ n. Won n) (omega arith)
better-assoc (Won a) (Won b) (Lost c) = refl
better-assoc (Won a) (Lost b) Draw = refl
better-assoc (Won a) (Lost b) (Won c) = refl
better-assoc (Won a) (Lost b) (Lost c) = refl
better-assoc (Lost a) Draw Draw = refl
better-assoc (Lost a) Draw (Won c) = refl
better-assoc (Lost a) Draw (Lost c) = refl
better-assoc (Lost a) (Won b) Draw = refl
better-assoc (Lost a) (Won b) (Won c) = refl
better-assoc (Lost a) (Won b) (Lost c) = refl
better-assoc (Lost a) (Lost b) Draw = refl
better-assoc (Lost a) (Lost b) (Won c) = refl
better-assoc (Lost a) (Lost b) (Lost c) = ap (λ n. Lost n) (omega arith)

least-lost : (v : Value) → AtMost (Lost 0) v
least-lost Draw = refl
least-lost (Won a) = refl
least-lost (Lost a) = ap (λ n. Lost n) (omega arith)

-- the best of some values is one of them that is no worse than each
best_is : (v best : Value) (os : List Outcome) → AtMost best v → ((o : Outcome) → Contains os o → AtMost o.value v)
    → (best ≡ v) ⊎ ((o : Outcome) × Contains os o × (o.value ≡ v)) → fold (λ w (o : Outcome). better w o.value) best os ≡ v
best_is v best [] low each some = elim some [
  | inl is ↦ is
  | inr o ↦ absurd (omega (arith, o.1.1))
]
best_is v best (o ∷ os) low each some =
    best_is v (better best o.value) os (better-assoc best o.value v ∙ (ap (better best) here ∙ low)) (λ p c. each p (Contains-tail o os p c)) next
  where
    here : AtMost o.value v
    here = each o (Contains-head o os)

    next : (better best o.value ≡ v) ⊎ ((p : Outcome) × Contains os p × (p.value ≡ v))
    next = elim some [
      | inl is ↦ inl (ap (λ w. better w o.value) is ∙ (better-comm v o.value ∙ here))
      | inr p ↦ elim (Contains-cons_cases o os p.0 p.1) [
        | inl is ↦ inl (ap (better best) (ap (λ (q : Outcome). q.value) is ∙ p.2) ∙ low)
        | inr later ↦ inr (p.0, later, p.2)
      ]
    ]

-- ---- what moves lead to in the game

module _ (board : Shape) (s : Sides) where
  -- the result of each move of a lost position is won
  lost_result : (d : ℕ) → is_lost d board s ≡ true → (m : Move) → Contains (moves_of board s) m → (k : ℕ) × (d ≡ suc k) × (is_won k board (result_of s m) ≡ true)
  unfolding is_lost
  lost_result zero lost m c = absurd (both_ways false refl (all_contained (λ x. false) (moves_of board s) lost m c))
  lost_result (suc k) lost m c = (k, refl, all_contained (λ x. is_won k board (result_of s x)) (moves_of board s) lost m c)

  won_by : (k : ℕ) (m : Move) → Contains (moves_of board s) m → is_lost k board (result_of s m) ≡ true → is_won (suc k) board s ≡ true
  unfolding is_won
  won_by k m c lost = contained_any (λ x. is_lost k board (result_of s x)) (moves_of board s) m c lost

  -- no move leads to more than the value
  at_most : (m : Move) → Contains (moves_of board s) m → (next value : Value) → IsValue board (result_of s m) next → IsValue board s value → AtMost (value_for_mover next) value
  at_most m c Draw Draw there here = refl
  at_most m c Draw (Won d) there here = refl
  at_most m c Draw (Lost d) there here =
      let r = lost_result d here.lost m c in
      absurd (both_ways (is_won r.0 board (result_of s m)) (there.never r.0).not_won r.2)
  at_most m c (Won e) Draw there here = refl
  at_most m c (Won e) (Won d) there here = refl
  at_most m c (Won e) (Lost d) there here =
      let r = lost_result d here.lost m c in
      elim (cases_lt r.0 e) [
        | inl less ↦ absurd (both_ways (is_won r.0 board (result_of s m)) (there.least r.0 less).not_won r.2)
        | inr within ↦ ap (λ n. Lost n) (omega (arith, within, r.1))
      ]
  at_most m c (Lost e) Draw there here = absurd (both_ways (is_won (suc e) board s) (here.never (suc e)).not_won (won_by e m c there.lost))
  at_most m c (Lost e) (Won d) there here = elim (cases_lt (suc e) d) [
    | inl less ↦ absurd (both_ways (is_won (suc e) board s) (here.least (suc e) less).not_won (won_by e m c there.lost))
    | inr within ↦ ap (λ n. Won n) (omega (arith, within))
  ]
  at_most m c (Lost e) (Lost d) there here = absurd (never_both board s d (suc e) here.lost (won_by e m c there.lost))

  module _ (os : List Outcome) (listed : map (λ (o : Outcome). o.step) os ≡ moves_of board s) (lead : (o : Outcome) → Contains os o → LeadsTo board s o) where
    -- the value follows from what the moves lead to
    pub follows : (value : Value) → IsValue board s value → HasValues board s (moves_of board s) → value_from os ≡ value
    unfolding is_lost
    follows value here known =
        best_is value (Lost 0) os (least-lost value)
        (λ o c.
        let next = lead o c in
        subst (λ v. AtMost v value) (sym next.2) (at_most o.step (subst (λ ms. Contains ms o.step) listed (Contains-map (λ (p : Outcome). p.step) os o c)) next.0 value next.1 here))
        (some (moves_of board s) refl)
      where
        some : (ms : List Move) → moves_of board s ≡ ms → (Lost 0 ≡ value) ⊎ ((o : Outcome) × Contains os o × (o.value ≡ value))
        some [] none =
            let lost : is_lost 0 board s ≡ true = rw none refl in
            let over : IsValue board s (Lost 0) = record { lost = lost; least = λ n low. absurd (omega arith) } in
            inl (one_value board s (Lost 0) value over here)
        some (m ∷ ms) are =
            let b = some_best board s value here known m (subst (λ xs. Contains xs m) (sym are) (Contains-head m ms)) in
            let o = Contains-map_cases (λ (p : Outcome). p.step) os b.0 (subst (λ xs. Contains xs b.0) (sym listed) b.1) in
            let next = lead o.0 o.1 in
            let there : IsValue board (result_of s b.0) next.0 = subst (λ x. IsValue board (result_of s x) next.0) o.2 next.1 in
            let same : next.0 ≡ b.2.0 = one_value board (result_of s b.0) next.0 b.2.0 there b.2.2 in
            inr (o.0, o.1, next.2 ∙ (ap value_for_mover same ∙ best-value_for_mover value b.2.0 b.2.1))
