-- How the parts of an answer follow one another.
use Rattle.std.proofs.Common.{◌≡◌, ℕ, suc, ◌≤◌, Bool, true, false, filter, List, [], ◌∷◌, ◌++◌, map, length, Option, Some, None, Result, Ok, Err, refl, sym, ap, ap₂, subst, ◌∙◌, inl, inr, arith, append_assoc, append-nil}
use Rattle.std.specs.List.{Contains}
use Rattle.std.specs.Prelude.{IfSome, slice_get}
use Rattle.std.proofs.lemmas.Bool.{cases_Bool}
use Rattle.std.proofs.lemmas.List.{length-map, map-append}
use Rattle.morris_board.specs.Boards.{Shape}
use Rattle.morris_board.specs.Positions.{Sides}
use Rattle.morris_files.specs.Files.{Files}
use Rattle.morris_moves.specs.declared.game_move.Move.{Move}
use Rattle.morris_moves.specs.Rules.{moves_of, result_of}
use Rattle.morris_moves.proofs.ListLaws.{Contains-map, Contains-map_cases}
use Rattle.morris_pairs.specs.FilterLaws.{filter-contains, length-filter_le}
use Rattle.morris_pairs.specs.declared.value.Value.{Value}
use Rattle.morris_lookup.proofs.OutcomeLaws.{first_some}
use Rattle.morris_lookup.specs.declared.outcomes.Outcome.{Outcome}
use Rattle.morris_lookup.specs.Lookups.{depth_of}
use Rattle.morris_lookup.specs.Outcomes.{best_among, same_value, value_for_mover}
use Rattle.morris_jobs.specs.declared.fault.Fault.{Fault}
use Rattle.morris_jobs.specs.declared.fault.Fault.TheVariants as fault
use Rattle.morris_queries.specs.Reports.{then_step, Agrees, IsListed, Played, played, PositionReport, position_report, outcome, value_from, reported_from, reported_value, reported_outcome, reported_outcomes, reported_of, reported_line, shown_line, reported_shown}
use Rattle.morris_queries.specs.declared.show.Show.{Show}
use Rattle.morris_queries.specs.declared.show.Show.TheVariants as show

-- ---- refusals, and what was found

pub refusal_followed : {A B : Type 0} (refused : Fault) (wanted : Result A Fault) (next : A → Result B Fault) → Agrees (Err refused) wanted → Agrees (Err refused) (then_step wanted next)
refusal_followed refused wanted next h = elim h [
  | inl e ↦ inl (ap (λ r. then_step r next) e)
  | inr e ↦ let memory : refused ≡ fault.Memory = cc in inr (ap (λ f. Err f) memory)
]

-- a refusal of what comes after what was found
pub refusal_after : {A B : Type 0} (refused : Fault) (wanted : Result A Fault) (found : A) (next : A → Result B Fault) → wanted ≡ Ok found → Agrees (Err refused) (next found)
    → Agrees (Err refused) (then_step wanted next)
refusal_after refused wanted found next is h = subst (λ r. Agrees (Err refused) (then_step r next)) (sym is) h

-- what agrees and isn't a refusal is what was wanted
pub agreed : {A : Type 0} (found : A) (wanted : Result A Fault) → Agrees (Ok found) wanted → wanted ≡ Ok found
agreed found wanted h = elim h [
  | inl e ↦ e
  | inr e ↦ (cc)
]

-- ---- lists that are put together one by one

abbrev pub prepended : {X : Type 0} → List X → Result (List X) Fault → Result (List X) Fault
prepended xs rest = then_step rest (λ ys. Ok (xs ++ ys))

pub prepended-nil : {X : Type 0} (rest : Result (List X) Fault) → rest ≡ prepended [] rest
prepended-nil (Ok ys) = refl
prepended-nil (Err refused) = refl

-- one more
pub prepended-more : {X : Type 0} (xs : List X) (x : X) (rest : Result (List X) Fault)
    → prepended xs (then_step rest (λ ys. Ok (x ∷ ys))) ≡ prepended (xs ++ x ∷ []) rest
prepended-more xs x (Ok ys) = ap (λ l. Ok l) (sym (append_assoc xs (x ∷ []) ys))
prepended-more xs x (Err refused) = refl

pub refusal_prepended : {X : Type 0} (refused : Fault) (xs : List X) (all rest : Result (List X) Fault) → all ≡ prepended xs rest → Agrees (Err refused) rest → Agrees (Err refused) all
refusal_prepended refused xs all rest is h = subst (Agrees (Err refused)) (sym is) (refusal_followed refused rest (λ ys. Ok (xs ++ ys)) h)

-- ---- what each of the moves leads to

module _ (board : Shape) (name : List ℕ) (files : Files) (s : Sides) (items : List Outcome) (left rest : List Move) (m : Move) (all : Result (List Outcome) Fault)
    (so_far : all ≡ prepended items (reported_outcomes board name files s left)) (split : left ≡ m ∷ rest) where
  here : all ≡ prepended items (reported_outcomes board name files s (m ∷ rest))
  here = subst (λ ms. all ≡ prepended items (reported_outcomes board name files s ms)) split so_far

  pub outcomes_refused : (refused : Fault) → Agrees (Err refused) (reported_value board name files (result_of s m)) → Agrees (Err refused) all
  unfolding reported_outcomes
  outcomes_refused refused h =
      refusal_prepended refused items all (reported_outcomes board name files s (m ∷ rest)) here
      (refusal_followed refused (reported_outcome board name files s m) (λ o. then_step (reported_outcomes board name files s rest) (λ os. Ok (o ∷ os)))
      (refusal_followed refused (reported_value board name files (result_of s m)) (λ value. Ok (outcome m (value_for_mover value))) h))

  pub outcomes_more : (value turned_round : Value) (pushed : List Outcome) → reported_value board name files (result_of s m) ≡ Ok value → turned_round ≡ value_for_mover value
      → pushed ≡ items ++ outcome m turned_round ∷ [] → all ≡ prepended pushed (reported_outcomes board name files s rest)
  unfolding reported_outcomes
  outcomes_more value turned_round pushed found is one =
      let o : Outcome = outcome m turned_round in
      let first : reported_outcome board name files s m ≡ Ok o = ap (λ r. then_step r (λ v. Ok (outcome m (value_for_mover v)))) found ∙ ap (λ v. Ok (outcome m v)) (sym is) in
      here
      ∙ ap (λ r. prepended items (then_step r (λ x. then_step (reported_outcomes board name files s rest) (λ os. Ok (x ∷ os))))) first
      ∙ prepended-more items o (reported_outcomes board name files s rest)
      ∙ ap (λ xs. prepended xs (reported_outcomes board name files s rest)) (sym one)

pub outcomes_all : (board : Shape) (name : List ℕ) (files : Files) (s : Sides) (items : List Outcome) (left : List Move) (all : Result (List Outcome) Fault)
    → all ≡ prepended items (reported_outcomes board name files s left) → left ≡ [] → all ≡ Ok items
unfolding reported_outcomes
outcomes_all board name files s items left all so_far none =
    subst (λ ms. all ≡ prepended items (reported_outcomes board name files s ms)) none so_far ∙ ap (λ xs. Ok xs) (append-nil items)

pub steps_more : (outcomes pushed : List Outcome) (seen : List Move) (m : Move) (value : Value) → map (λ (o : Outcome). o.step) outcomes ≡ seen
    → pushed ≡ outcomes ++ outcome m value ∷ [] → map (λ (o : Outcome). o.step) pushed ≡ seen ++ m ∷ []
steps_more outcomes pushed seen m value so_far one =
    ap (map (λ (o : Outcome). o.step)) one ∙ map-append (λ (o : Outcome). o.step) outcomes (outcome m value ∷ []) ∙ ap (λ ms. ms ++ m ∷ []) so_far

-- ---- the report of a position

pub from_same : (value : Value) (os : List Outcome) → same_value value (value_from os) ≡ true → reported_from value os ≡ Ok (position_report value (best_among value os) os [])
unfolding reported_from
from_same value os same = rw same refl

pub from_other : (value : Value) (os : List Outcome) → same_value value (value_from os) ≡ false → reported_from value os ≡ Err fault.Disagree
unfolding reported_from
from_other value os other = rw other refl

-- the report says the same
pub from_reported : (value : Value) (os : List Outcome) (t : PositionReport) → reported_from value os ≡ Ok t → position_report value (best_among value os) os [] ≡ t
from_reported value os t e = elim (cases_Bool (same_value value (value_from os))) [
  | inl same ↦ let is = sym (from_same value os same) ∙ e in cc
  | inr other ↦ let no = sym (from_other value os other) ∙ e in cc
]

module _ (board : Shape) (name : List ℕ) (files : Files) (s : Sides) where
  pub reported_refused_value : (refused : Fault) → Agrees (Err refused) (reported_value board name files s) → Agrees (Err refused) (reported_of board name files s)
  unfolding reported_of
  reported_refused_value refused h =
      refusal_followed refused (reported_value board name files s) (λ value. then_step (reported_outcomes board name files s (moves_of board s)) (reported_from value)) h

  pub reported_refused_outcomes : (refused : Fault) (value : Value) → reported_value board name files s ≡ Ok value
      → Agrees (Err refused) (reported_outcomes board name files s (moves_of board s)) → Agrees (Err refused) (reported_of board name files s)
  unfolding reported_of
  reported_refused_outcomes refused value found h =
      refusal_after refused (reported_value board name files s) value (λ v. then_step (reported_outcomes board name files s (moves_of board s)) (reported_from v)) found
      (refusal_followed refused (reported_outcomes board name files s (moves_of board s)) (reported_from value) h)

  module _ (value : Value) (os : List Outcome) (found : reported_value board name files s ≡ Ok value) (all : reported_outcomes board name files s (moves_of board s) ≡ Ok os) where
    reported_both : reported_of board name files s ≡ reported_from value os
    unfolding reported_of
    reported_both =
        ap (λ r. then_step r (λ v. then_step (reported_outcomes board name files s (moves_of board s)) (reported_from v))) found
        ∙ ap (λ r. then_step r (reported_from value)) all

    pub reported_found : (best : List Move) (line : List Played) → best ≡ best_among value os → line ≡ [] → same_value value (value_from os) ≡ true
        → reported_of board name files s ≡ Ok (position_report value best os line)
    reported_found best line is none same = reported_both ∙ from_same value os same ∙ ap₂ (λ b l. Ok (position_report value b os l)) (sym is) (sym none)

    pub reported_disagrees : same_value value (value_from os) ≡ false → reported_of board name files s ≡ Err fault.Disagree
    reported_disagrees other = reported_both ∙ from_other value os other

pub best_few : (value : Value) (os : List Outcome) → length (best_among value os) ≤ length os
best_few value os =
    let leads : Outcome → Bool = λ o. same_value o.value value in
    omega (arith, length-map (filter leads os) (λ (o : Outcome). o.step), length-filter_le leads os)

best_listed : (value : Value) (os : List Outcome) (m : Move) → Contains (best_among value os) m → Contains (map (λ (o : Outcome). o.step) os) m
best_listed value os m c =
    let leads : Outcome → Bool = λ o. same_value o.value value in
    let o = Contains-map_cases (λ (p : Outcome). p.step) (filter leads os) m c in
    subst (Contains (map (λ (p : Outcome). p.step) os)) o.2 (Contains-map (λ (p : Outcome). p.step) os o.0 (filter-contains leads os o.0 o.1).0)

-- the first best move, if there is one, is legal
pub first_legal : (board : Shape) (s : Sides) (t : PositionReport) → IsListed board s t → IfSome (slice_get t.best 0) (Contains (moves_of board s))
first_legal board s t listed = from (slice_get t.best 0) refl
  where
    from : (o : Option Move) → o ≡ slice_get t.best 0 → IfSome o (Contains (moves_of board s))
    from None e = tt
    from (Some m) e =
        let there : Contains (best_among t.value t.outcomes) m = subst (λ ms. Contains ms m) listed.best (first_some t.best m e) in
        subst (λ ms. Contains ms m) listed.legal (best_listed t.value t.outcomes m there)

-- ---- the line of play

module _ (board : Shape) (name : List ℕ) (files : Files) (s : Sides) (items : List Played) (n k : ℕ) (first : Option Move) (all : Result (List Played) Fault)
    (so_far : all ≡ prepended items (reported_line board name files n s first)) where
  -- what follows on the move, and on the position after it
  abbrev and_on : Move → Sides → PositionReport → Result (List Played) Fault
  and_on m next t = then_step (reported_line board name files k next (slice_get t.best 0)) (λ rest. Ok (played m next t.value ∷ rest))

  -- one ply more is to be shown
  module _ (one : n ≡ suc k) where
    ply_here : (o : Option Move) → first ≡ o → all ≡ prepended items (reported_line board name files (suc k) s o)
    ply_here o is = so_far ∙ ap (λ i. prepended items (reported_line board name files i s first)) one ∙ ap (λ f. prepended items (reported_line board name files (suc k) s f)) is

    pub line_ends : first ≡ None → all ≡ Ok items
    unfolding reported_line
    line_ends none = ply_here None none ∙ ap (λ xs. Ok xs) (append-nil items)

    module _ (m : Move) (next : Sides) (there : first ≡ Some m) (leads : next ≡ result_of s m) where
      by_move : all ≡ prepended items (then_step (reported_of board name files next) (and_on m next))
      unfolding reported_line
      by_move = ply_here (Some m) there ∙ ap (λ p. prepended items (then_step (reported_of board name files p) (and_on m p))) (sym leads)

      pub line_refused : (refused : Fault) → Agrees (Err refused) (reported_of board name files next) → Agrees (Err refused) all
      line_refused refused h =
          refusal_prepended refused items all (then_step (reported_of board name files next) (and_on m next)) by_move
          (refusal_followed refused (reported_of board name files next) (and_on m next) h)

      pub line_more : (t : PositionReport) (pushed : List Played) (best : Option Move) → reported_of board name files next ≡ Ok t → best ≡ slice_get t.best 0
          → pushed ≡ items ++ played m next t.value ∷ [] → all ≡ prepended pushed (reported_line board name files k next best)
      line_more t pushed best found is added =
          by_move
          ∙ ap (λ r. prepended items (then_step r (and_on m next))) found
          ∙ prepended-more items (played m next t.value) (reported_line board name files k next (slice_get t.best 0))
          ∙ ap (λ xs. prepended xs (reported_line board name files k next (slice_get t.best 0))) (sym added)
          ∙ ap (λ o. prepended pushed (reported_line board name files k next o)) (sym is)

  -- all were shown
  pub line_all : n ≡ 0 → all ≡ Ok items
  unfolding reported_line
  line_all none = so_far ∙ ap (λ i. prepended items (reported_line board name files i s first)) none ∙ ap (λ xs. Ok xs) (append-nil items)

-- ---- what is shown

module _ (board : Shape) (name : List ℕ) (files : Files) (s : Sides) where
  no_line : (r : Result Value Fault) (q : Result (List Outcome) Fault) (t : PositionReport)
      → then_step r (λ value. then_step q (reported_from value)) ≡ Ok t → t.line ≡ []
  no_line (Ok value) (Ok os) t e = ap (λ (u : PositionReport). u.line) (sym (from_reported value os t e))
  no_line (Ok value) (Err refused) t e = cc
  no_line (Err refused) q t e = cc

  pub reported_of-line : (t : PositionReport) → reported_of board name files s ≡ Ok t → t.line ≡ []
  unfolding reported_of
  reported_of-line t e = no_line (reported_value board name files s) (reported_outcomes board name files s (moves_of board s)) t e

  pub shown_refused : (what : Show) (refused : Fault) → Agrees (Err refused) (reported_of board name files s) → Agrees (Err refused) (reported_shown board name files what s)
  unfolding reported_shown
  shown_refused what refused h =
      refusal_followed refused (reported_of board name files s)
      (λ t. then_step (shown_line board name files what t s) (λ line. Ok (position_report t.value t.best t.outcomes line))) h

  pub shown_line_refused : (t : PositionReport) (refused : Fault) → reported_of board name files s ≡ Ok t → Agrees (Err refused) (reported_line board name files (depth_of t.value) s (slice_get t.best 0))
      → Agrees (Err refused) (reported_shown board name files show.Line s)
  unfolding reported_shown
  shown_line_refused t refused found h =
      refusal_after refused (reported_of board name files s) t
      (λ u. then_step (reported_line board name files (depth_of u.value) s (slice_get u.best 0)) (λ line. Ok (position_report u.value u.best u.outcomes line))) found
      (refusal_followed refused (reported_line board name files (depth_of t.value) s (slice_get t.best 0)) (λ line. Ok (position_report t.value t.best t.outcomes line)) h)

  pub shown_with_line : (t : PositionReport) (line : List Played) → reported_of board name files s ≡ Ok t → reported_line board name files (depth_of t.value) s (slice_get t.best 0) ≡ Ok line
      → reported_shown board name files show.Line s ≡ Ok (position_report t.value t.best t.outcomes line)
  unfolding reported_shown
  shown_with_line t line found goes =
      ap (λ r. then_step r (λ u. then_step (reported_line board name files (depth_of u.value) s (slice_get u.best 0)) (λ l. Ok (position_report u.value u.best u.outcomes l)))) found
      ∙ ap (λ r. then_step r (λ l. Ok (position_report t.value t.best t.outcomes l))) goes

  none_shown : (what : Show) (t : PositionReport) → (what ≡ show.Line → ⊥) → shown_line board name files what t s ≡ Ok []
  none_shown show.Line t other = absurd (other refl)
  none_shown _ t other = refl

  pub shown_without : (what : Show) (t : PositionReport) → (what ≡ show.Line → ⊥) → reported_of board name files s ≡ Ok t → reported_shown board name files what s ≡ Ok t
  unfolding reported_shown
  shown_without what t other found =
      ap (λ r. then_step r (λ u. then_step (shown_line board name files what u s) (λ l. Ok (position_report u.value u.best u.outcomes l)))) found
      ∙ ap (λ r. then_step r (λ l. Ok (position_report t.value t.best t.outcomes l))) (none_shown what t other)
      ∙ ap (λ l. Ok (position_report t.value t.best t.outcomes l)) (sym (reported_of-line t found))
