-- Laws of outcomes: best moves are those that lead to the position's own value.
use Rattle.std.proofs.Common.{◌≡◌, ◌≢◌, zero, suc, true, false, map, List, [], ◌∷◌, ◌++◌, Option, Some, None, Result, Ok, Err, refl, sym, ap, ap₂, subst, ◌∙◌, inl, inr, append_assoc, append-nil}
use Rattle.std.specs.List.{AllPairs, Contains}
use Rattle.std.proofs.lemmas.Bool.{both_ways, cases_Bool, eq-eqb, eqb-true}
use Rattle.std.specs.Prelude.{slice_get, IfSome}
use Rattle.morris_moves.proofs.ListLaws.{Contains-cons_cases, Contains-head, Contains-map, Contains-map_cases, Contains-tail}
use Rattle.morris_moves.proofs.OrderLaws.{moves_in_order}
use Rattle.morris_moves.specs.Order.{Precedes}
use Rattle.std.proofs.lemmas.List.{map-append}
use Rattle.std.proofs.lemmas.List.Elements.{Contains-push_cases, Contains-push, Contains-append_left}
use Rattle.morris_board.specs.Boards.{Shape}
use Rattle.morris_board.specs.Positions.{Sides}
use Rattle.morris_moves.specs.declared.game_move.Move.{Move}
use Rattle.morris_moves.specs.Rules.{moves_of, result_of}
use Rattle.morris_pairs.specs.declared.value.Value.{Value}
use Rattle.morris_pairs.specs.declared.value.Value.TheVariants.{Draw, Won, Lost}
use Rattle.morris_pairs.specs.Codes.{IsValue}
use Rattle.morris_probe.specs.Best.{after_best, LeadsOn, IsBest}
use Rattle.morris_probe.proofs.BestLaws.{AreBestOf, best_more, best_none, best_same, leads_off}
use Rattle.morris_probe.proofs.SomeBest.{HasValues}
use Rattle.morris_lookup.specs.declared.outcomes.Outcome.{Outcome}
use Rattle.morris_lookup.specs.FileSets.{AreExactAfter, Files, IsExactAt, missing_file, said_of, IsValueRefusal}
use Rattle.morris_lookup.specs.Outcomes.{best_among, same_value, value_for_mover, ArePicked, IsOutcome, IsOutcomeRefusal}
use Rattle.morris_lookup.specs.declared.fault.LookFault.{LookFault}
use Rattle.morris_lookup.specs.declared.fault.LookFault.TheVariants as fault
use Rattle.morris_lookup.specs.Lines.{IsPlyLess}

pub value_for_mover-best : (found next : Value) → value_for_mover next ≡ found → after_best found ≡ Some next
value_for_mover-best found Draw e = subst (λ v. after_best v ≡ Some Draw) e refl
value_for_mover-best found (Won depth) e = subst (λ v. after_best v ≡ Some (Won depth)) e refl
value_for_mover-best found (Lost depth) e = subst (λ v. after_best v ≡ Some (Lost depth)) e refl

pub best-value_for_mover : (found next : Value) → after_best found ≡ Some next → value_for_mover next ≡ found
best-value_for_mover Draw next e = let is : next ≡ Draw = cc in ap value_for_mover is
best-value_for_mover (Won zero) next e = cc
best-value_for_mover (Won (suc depth)) next e = let is : next ≡ Lost depth = cc in ap value_for_mover is
best-value_for_mover (Lost zero) next e = cc
best-value_for_mover (Lost (suc depth)) next e = let is : next ≡ Won depth = cc in ap value_for_mover is

-- ---- values that are the same

pub same_itself : (v : Value) → same_value v v ≡ true
same_itself Draw = refl
same_itself (Won a) = eq-eqb a a refl
same_itself (Lost a) = eq-eqb a a refl

same_true : (v w : Value) → same_value v w ≡ true → v ≡ w
same_true Draw Draw e = refl
same_true (Won a) (Won b) e = ap (λ n. Won n) (eqb-true a b e)
same_true (Lost a) (Lost b) e = ap (λ n. Lost n) (eqb-true a b e)
same_true _ _ e = cc

apart_values : (v w : Value) → v ≡ w → same_value v w ≡ false → ⊥
apart_values v w e apart = both_ways (same_value v w) apart (subst (λ u. same_value u w ≡ true) (sym e) (same_itself w))

-- ---- outcomes

abbrev pub steps : List Outcome → List Move
steps os = map (λ (o : Outcome). o.step) os

-- the outcome of a move whose result has a value
module _ (F : Type 0) (board : Shape) (files : Files) (s p : Sides) (m : Move) (class_words : p ≡ result_of s m) (next : Value) where
  abbrev value_in_answer : Result Value F → Value
  value_in_answer (Ok value) = value
  value_in_answer (Err fault) = next

  pub outcome_told : missing_file files p ≡ None → ((value : Value) → said_of board files p ≡ Some value → ◌≡◌ {A = Result Value F} (Ok next) (Ok value))
      → (IsExactAt board files p → IsValue board p next) → (value : Value) → value ≡ value_for_mover next → IsOutcome board files s (record { step = m; value = value })
  outcome_told found said exact value is = record {
    next = next;
    found = subst (λ q. missing_file files q ≡ None) class_words found;
    for_mover = is;
    said = λ v e. ap value_in_answer (said v (subst (λ q. said_of board files q ≡ Some v) (sym class_words) e));
    exact = λ h. subst (λ q. IsValue board q next) class_words (exact (subst (IsExactAt board files) (sym class_words) h));
  }

-- why there is no value after a legal move is why there is no outcome
pub stops_there : (B : Type 0) (board : Shape) (files : Files) (s : Sides) (seen rest : List Move) (m : Move) → seen ++ m ∷ rest ≡ moves_of board s
    → ((x : Move) → Contains seen x → missing_file files (result_of s x) ≡ None)
    → (refusal : LookFault B) → IsValueRefusal board files (result_of s m) refusal → IsOutcomeRefusal board files s refusal
stops_there B board files s seen rest m all found (fault.Needs needs) why = record { before = seen; step = m; after = rest; all = all; found = found; refused = why }
stops_there B board files s seen rest m all found fault.Read why = record { before = seen; step = m; after = rest; all = all; found = found; refused = why }
stops_there B board files s seen rest m all found fault.Memory why = tt

-- one more of which something is so
pub each_more : {X : Type 0} (P : X → Type 0) (seen : List X) (m : X) → ((x : X) → Contains seen x → P x) → P m → (x : X) → Contains (seen ++ m ∷ []) x → P x
each_more P seen m all here x c = elim (Contains-push_cases seen m x c) [ inl earlier ↦ all x earlier | inr is ↦ subst P is here ]

-- the moves of one outcome more
pub steps_more : (outcomes items : List Outcome) (outcome : Outcome) (seen : List Move) (m : Move) → items ≡ outcomes ++ outcome ∷ []
    → steps outcomes ≡ seen → outcome.step ≡ m → steps items ≡ seen ++ m ∷ []
steps_more outcomes items outcome seen m pushed so_far of =
    ap steps pushed
    ∙ map-append (λ (o : Outcome). o.step) outcomes (outcome ∷ [])
    ∙ ap₂ (λ ms x. ms ++ x ∷ []) so_far of

-- the next move is one of all
pub move_there : (seen rest all : List Move) (m : Move) → seen ++ m ∷ rest ≡ all → Contains all m
move_there seen rest all m whole =
    subst (λ ms. Contains ms m) (append_assoc seen (m ∷ []) rest ∙ whole) (Contains-append_left (seen ++ m ∷ []) rest m (Contains-push seen m))

-- a value that is answered is the only one
pub same_found : {F : Type 0} → (one other : Value) → ◌≡◌ {A = Result Value F} (Ok one) (Ok other) → one ≡ other
same_found one other e = cc

-- ---- the moves that are picked

module _ (board : Shape) (files : Files) (s : Sides) (value : Value) where
  -- one that is picked is one of the moves
  pub picked_of : (moves best : List Move) → ArePicked board files s value moves best → (n : Move) → Contains best n → Contains moves n
  picked_of [] best none n there = subst (λ b. Contains b n) none there
  picked_of (x ∷ moves) best picked n there = elim picked [
    | inl left ↦ Contains-tail x moves n (picked_of moves best left.1 n there)
    | inr taken ↦ elim (Contains-cons_cases x taken.0 n (subst (λ b. Contains b n) taken.1 there)) [
      | inl is ↦ subst (Contains (x ∷ moves)) is (Contains-head x moves)
      | inr later ↦ Contains-tail x moves n (picked_of moves taken.0 taken.3 n later)
    ]
  ]

  -- an outcome of this value, or of another
  module _ (o : Outcome) (h : IsOutcome board files s o) where
    next_said : (next : Value) → said_of board files (result_of s o.step) ≡ Some next → o.value ≡ value_for_mover next
    next_said next e = h.for_mover ∙ ap value_for_mover (h.said next e)

    may_lead : o.value ≡ value → (said : Option Value) → said_of board files (result_of s o.step) ≡ said → IfSome said (λ next. value_for_mover next ≡ value)
    may_lead is None e = tt
    may_lead is (Some next) e = sym (next_said next e) ∙ is

    may_not_lead : o.value ≢ value → (said : Option Value) → said_of board files (result_of s o.step) ≡ said → IfSome said (λ next. value_for_mover next ≢ value)
    may_not_lead other None e = tt
    may_not_lead other (Some next) e = λ same. other (next_said next e ∙ same)

  -- those that are the best of some outcomes are picked of their moves
  pub picked_among : (os : List Outcome) → ((o : Outcome) → Contains os o → IsOutcome board files s o) → ArePicked board files s value (steps os) (best_among value os)
  picked_among [] reported = refl
  picked_among (o ∷ os) reported =
      let here = reported o (Contains-head o os) in
      let rest = picked_among os (λ p c. reported p (Contains-tail o os p c)) in
      let said = said_of board files (result_of s o.step) in
      elim (cases_Bool (same_value o.value value)) [
        | inl alike ↦ rw alike (inr (best_among value os, refl, may_lead o here (same_true o.value value alike) said refl, rest))
        | inr apart ↦ rw apart (inl (may_not_lead o here (λ e. apart_values o.value value e apart) said refl, rest))
      ]

-- ---- the best moves of the game, by what each legal move leads to

-- a move leads to this value: that of the position after it, for the player who moved
abbrev pub Leads : Shape → Sides → Outcome → Type 0
Leads board s o = (next : Value) × IsValue board (result_of s o.step) next × (o.value ≡ value_for_mover next)

pub values_among : (board : Shape) (s : Sides) (os : List Outcome) → ((o : Outcome) → Contains os o → Leads board s o) → HasValues board s (steps os)
values_among board s os class_word m c =
    let from = Contains-map_cases (λ (o : Outcome). o.step) os m c in
    let there = class_word from.0 from.1 in
    (there.0, subst (λ x. IsValue board (result_of s x) there.0) from.2 there.1)

module _ (board : Shape) (s : Sides) (value : Value) where
  best_from : (seen best : List Move) (os : List Outcome) → AreBestOf board s value seen best → AllPairs Precedes (seen ++ steps os)
      → ((o : Outcome) → Contains os o → Leads board s o) → AreBestOf board s value (seen ++ steps os) (best ++ best_among value os)
  best_from seen best [] so_far order class_word = subst (λ b. AreBestOf board s value (seen ++ []) b) (sym (append-nil best)) (subst (λ m. AreBestOf board s value m best) (sym (append-nil seen)) so_far)
  best_from seen best (o ∷ os) so_far order class_word = elim (cases_Bool (same_value o.value value)) [
    | inl alike ↦
        let here = class_word o (Contains-head o os) in
        let on : LeadsOn board s value o.step = (here.0, value_for_mover-best value here.0 (sym here.2 ∙ same_true o.value value alike), here.1) in
        let next : AreBestOf board s value ((seen ++ o.step ∷ []) ++ steps os) ((best ++ o.step ∷ []) ++ best_among value os) =
        best_from (seen ++ o.step ∷ []) (best ++ o.step ∷ []) os (best_more board s value seen (steps os) best o.step so_far order on)
        (subst (AllPairs Precedes) (sym (append_assoc seen (o.step ∷ []) (steps os))) order) (λ p c. class_word p (Contains-tail o os p c)) in
        rw alike (subst (AreBestOf board s value (seen ++ o.step ∷ steps os)) (append_assoc best (o.step ∷ []) (best_among value os))
        (subst (λ m. AreBestOf board s value m ((best ++ o.step ∷ []) ++ best_among value os)) (append_assoc seen (o.step ∷ []) (steps os)) next))
    | inr apart ↦
        let here = class_word o (Contains-head o os) in
        let off : LeadsOn board s value o.step → ⊥ =
        leads_off board s value o.step here.0 here.1 (λ e. apart_values o.value value (here.2 ∙ best-value_for_mover value here.0 e) apart) in
        let next : AreBestOf board s value ((seen ++ o.step ∷ []) ++ steps os) (best ++ best_among value os) =
        best_from (seen ++ o.step ∷ []) best os (best_same board s value seen (steps os) best o.step so_far off)
        (subst (AllPairs Precedes) (sym (append_assoc seen (o.step ∷ []) (steps os))) order) (λ p c. class_word p (Contains-tail o os p c)) in
        rw apart (subst (λ m. AreBestOf board s value m (best ++ best_among value os)) (append_assoc seen (o.step ∷ []) (steps os)) next)
  ]

  pub best_right : (os : List Outcome) → steps os ≡ moves_of board s → ((o : Outcome) → Contains os o → Leads board s o) → IsValue board s value
      → AreBestOf board s value (moves_of board s) (best_among value os)
  best_right os listed class_word here =
      subst (λ ms. AreBestOf board s value ms (best_among value os)) listed
      (best_from [] [] os (best_none board s value) (subst (AllPairs Precedes) (sym listed) (moves_in_order board s)) class_word)

module _ (board : Shape) (files : Files) (s : Sides) (os : List Outcome) (listed : steps os ≡ moves_of board s)
    (reported : (o : Outcome) → Contains os o → IsOutcome board files s o) (after : AreExactAfter board files s) where
  leads_among : (o : Outcome) → Contains os o → Leads board s o
  leads_among o c =
      let h = reported o c in
      (h.next, h.exact (after o.step (subst (λ ms. Contains ms o.step) listed (Contains-map (λ (p : Outcome). p.step) os o c))), h.for_mover)

  pub values_told : HasValues board s (moves_of board s)
  values_told = subst (HasValues board s) listed (values_among board s os leads_among)

  pub best_told : (value : Value) (best : List Move) → best ≡ best_among value os → IsValue board s value → AreBestOf board s value (moves_of board s) best
  best_told value best is here = subst (AreBestOf board s value (moves_of board s)) (sym is) (best_right board s value os listed leads_among here)

-- ---- the first of a list

pub first_none : (moves : List Move) → None ≡ slice_get moves 0 → moves ≡ []
first_none [] e = refl
first_none (m ∷ moves) e = cc

pub first_some : (moves : List Move) (m : Move) → Some m ≡ slice_get moves 0 → Contains moves m
first_some [] m e = cc
first_some (x ∷ moves) m e = let same : x ≡ m = cc in subst (Contains (x ∷ moves)) same (Contains-head x moves)

-- a best move makes the depth fall
pub best_falls : (board : Shape) (s : Sides) (m : Move) (t : Sides) → t ≡ result_of s m → IsBest board s m → IsPlyLess board s t
best_falls board s m t class_words best = record {
  value = best.1.0;
  next = best.1.2.0;
  here = best.1.1;
  there = subst (λ u. IsValue board u best.1.2.0) (sym class_words) best.1.2.2;
  one_less = best.1.2.1;
}
