-- What is reported where the files of a folder are those of exact tables is the game's.
use Rattle.std.proofs.Common.{◌≡◌, ◌≢◌, ℕ, zero, suc, ◌≤◌, ◌<◌, true, false, Bool, eqb, leb, List, [], ◌∷◌, map, length, Option, Some, None, Result, Ok, Err, refl, sym, ap, ap₂, subst, ◌∙◌, inl, inr, arith}
use Rattle.std.specs.Prelude.{IfSome, ◌&&◌, ◌||◌, slice_get}
use Rattle.std.specs.List.{Contains}
use Rattle.std.proofs.lemmas.Bool.{cases_Bool, eq-eqb}
use Rattle.morris_board.specs.Boards.{Shape}
use Rattle.morris_board.specs.Sets.{count_of}
use Rattle.morris_board.specs.Positions.{Sides, IsPosition}
use Rattle.morris_board.specs.Symmetries.{HasSymmetries}
use Rattle.morris_index.specs.Pairs.{Counts, pair_of, is_of, sort_counts}
use Rattle.morris_moves.specs.declared.game_move.Move.{Move}
use Rattle.morris_moves.specs.Rules.{moves_of, result_of}
use Rattle.morris_moves.specs.Values.{is_lost}
use Rattle.morris_moves.proofs.ListLaws.{Contains-head, Contains-tail, Contains-cons_cases, Contains-map_cases}
use Rattle.morris_pairs.specs.declared.value.Value.{Value}
use Rattle.morris_pairs.specs.declared.value.Value.TheVariants.{Draw, Won, Lost}
use Rattle.morris_pairs.specs.Codes.{IsValue}
use Rattle.morris_pairs.specs.EntryLaws.{laid}
use Rattle.morris_pairs.specs.NetLaws.{result-position}
use Rattle.morris_pairs.specs.Tables.{Table}
use Rattle.morris_pairs.proofs.FileLaws.{IsRaw-from_exact}
use Rattle.morris_probe.specs.Best.{LeadsOn, after_best}
use Rattle.morris_probe.proofs.BestLaws.{AreBestOf, best_all, one_value}
use Rattle.morris_probe.proofs.SomeBest.{HasValues, some_listed}
use Rattle.morris_probe.proofs.ProbingLaws.{lost_with_two}
use Rattle.morris_lookup.specs.declared.outcomes.Outcome.{Outcome}
use Rattle.morris_lookup.specs.Lookups.{code_for, depth_of}
use Rattle.morris_lookup.specs.Opening.{OpenFile, open_file, IsOpen, check_file}
use Rattle.morris_lookup.specs.Outcomes.{same_value, value_for_mover}
use Rattle.morris_lookup.proofs.FileLookups.{exact_code}
use Rattle.morris_lookup.proofs.OpeningLaws.{framed_file}
use Rattle.morris_lookup.proofs.OutcomeLaws.{best_right, first_some, same_itself}
use Rattle.morris_files.specs.Files.{Files}
use Rattle.morris_files.specs.Names.{name_of}
use Rattle.morris_jobs.specs.declared.fault.Fault.{Fault}
use Rattle.morris_jobs.specs.declared.fault.Fault.TheVariants as fault
use Rattle.morris_queries.specs.Answers.{IsExactAnswer}
use Rattle.morris_queries.specs.Exactness.{AreExactIn, AreExactNear, AreExactWithin, IsExactAt, IsExactBytes, LeadsTo, IsBestLine, HasLine, IsGame}
use Rattle.morris_queries.specs.declared.show.Show.{Show}
use Rattle.morris_queries.specs.declared.show.Show.TheVariants as show
use Rattle.morris_queries.specs.Reports.{then_step, with_first, Agrees, played, PositionReport, position_report, value_from, outcome, reported_from, reported_of, reported_line, reported_shown, shown_line, reported_value, reported_outcome, reported_outcomes, value_at, open_as, table_in, stated_in}
use Rattle.morris_queries.proofs.OpenLaws.{framed_found}
use Rattle.morris_queries.proofs.AgreeLaws.{follows}
use Rattle.morris_queries.proofs.TellingLaws.{agreed, from_same}

-- ---- results that are right

-- what a result holds is so, and it isn't refused because the files disagree
abbrev IsSound : {A : Type 0} → (A → Type 0) → Result A Fault → Type 0
IsSound P (Ok found) = P found
IsSound P (Err refused) = refused ≢ fault.Disagree

-- and then what comes after it
sound_followed : {A B : Type 0} (P : A → Type 0) (Q : B → Type 0) (step : Result A Fault) (next : A → Result B Fault) → IsSound P step
    → ((found : A) → P found → IsSound Q (next found)) → IsSound Q (then_step step next)
sound_followed P Q (Ok found) next here after = after found here
sound_followed P Q (Err refused) next here after = here

-- ---- the pair of a position

-- a position is one of its pair
of_its_pair : (s : Sides) (c : Counts) → pair_of s ≡ Some c → is_of c s ≡ true
of_its_pair s c e = elim (cases_Bool (eqb (count_of s.own) 2)) [
  | inl two ↦
      let none : pair_of s ≡ None = rw two refl in
      let no : None ≡ Some c = sym none ∙ e in
      cc
  | inr more ↦
      let some : pair_of s ≡ Some (sort_counts (count_of s.own) (count_of s.other)) = rw more refl in
      let both : Some (sort_counts (count_of s.own) (count_of s.other)) ≡ Some c = sym some ∙ e in
      let same : sort_counts (count_of s.own) (count_of s.other) ≡ c = cc in
      subst (λ d. is_of d s ≡ true) same of_ordered
]
  where
    or_true : (b : Bool) → (b || true) ≡ true
    or_true true = refl
    or_true false = refl

    alike : (n : ℕ) → eqb n n ≡ true
    alike n = eq-eqb n n refl

    of_ordered : is_of (sort_counts (count_of s.own) (count_of s.other)) s ≡ true
    of_ordered = elim (cases_Bool (leb (count_of s.other) (count_of s.own))) [
      | inl low ↦ rw low (rw (alike (count_of s.own), alike (count_of s.other)) refl)
      | inr high ↦
          rw high
          (rw (alike (count_of s.own), alike (count_of s.other)) (or_true (eqb (count_of s.own) (count_of s.other) && eqb (count_of s.other) (count_of s.own))))
    ]

-- ---- values

module _ (board : Shape) (few : board.points ≤ 24) (y : HasSymmetries board) (name : List ℕ) (files : Files) where
  module _ (s : Sides) (position : IsPosition board s) (c : Counts) (of : is_of c s ≡ true) where
    from_table : (bytes : List ℕ) → IsExactBytes board c bytes → IsSound (IsValue board s) (then_step (open_as board c (Some bytes)) (λ file. Ok (stated_in board s file)))
    from_table bytes right =
        let t : Table = right.0 in
        let checked : check_file board bytes ≡ Ok (t.layout, t.pair) = ap (check_file board) right.3 ∙ framed_file board few y t (IsRaw-from_exact board t right.1) in
        let file : OpenFile = open_file t.layout t.pair (Some bytes) (Some bytes) in
        let opened : open_as board c (Some bytes) ≡ Ok file = framed_found board c t.layout t.pair bytes right.2 checked in
        let here : is_of t.pair s ≡ true = subst (λ d. is_of d s ≡ true) (sym right.2) of in
        let lawful : IsOpen board file = record { lawful = right.1.lawful; checked = checked; unchanged = refl } in
        subst (λ r. IsSound (IsValue board s) (then_step r (λ f. Ok (stated_in board s f)))) (sym opened)
        (exact_code board board.points refl few y file lawful s position here (code_for board file bytes s) refl (t, right.1, ap (λ b. Some b) right.3)
        ((laid board few y t.layout t.pair right.1.lawful).below s position here))

    at_name : (o : Option (List ℕ)) → IfSome o (IsExactBytes board c) → IsSound (IsValue board s) (then_step (open_as board c o) (λ file. Ok (stated_in board s file)))
    at_name None right = λ is. cc
    at_name (Some bytes) right = from_table bytes right

    of_pair : IfSome (files (name_of name c)) (IsExactBytes board c) → IsSound (IsValue board s) (value_at board name files s (Some c))
    unfolding table_in
    of_pair exact = at_name (files (name_of name c)) exact

  sound_value : (s : Sides) → IsPosition board s → IsExactAt board name files s → IsSound (IsValue board s) (reported_value board name files s)
  unfolding reported_value
  sound_value s position exact = at_pair (pair_of s) refl exact
    where
      at_pair : (o : Option Counts) → pair_of s ≡ o → IfSome o (λ c. IfSome (files (name_of name c)) (IsExactBytes board c)) → IsSound (IsValue board s) (value_at board name files s o)
      at_pair None is right = lost_with_two board s is
      at_pair (Some c) is right = of_pair s position c (of_its_pair s c is) right

  -- ---- what moves lead to

  module _ (s : Sides) where
    abbrev Leads : Move → Outcome → Type 0
    Leads m o = (o.step ≡ m) × LeadsTo board s o

    -- the moves in order, each with what it leads to
    abbrev AreCanonical : List Move → List Outcome → Type 0
    AreCanonical ms os = (map (λ (o : Outcome). o.step) os ≡ ms) × ((o : Outcome) → Contains os o → LeadsTo board s o)

    sound_outcome : (m : Move) → IsPosition board (result_of s m) → IsExactAt board name files (result_of s m) → IsSound (Leads m) (reported_outcome board name files s m)
    sound_outcome m position exact =
        sound_followed (IsValue board (result_of s m)) (Leads m) (reported_value board name files (result_of s m)) (λ value. Ok (outcome m (value_for_mover value)))
        (sound_value (result_of s m) position exact) (λ value valued. (refl, (value, valued, refl)))

    sound_outcomes : (ms : List Move) → ((m : Move) → Contains ms m → IsPosition board (result_of s m) × IsExactAt board name files (result_of s m))
        → IsSound (AreCanonical ms) (reported_outcomes board name files s ms)
    unfolding reported_outcomes
    sound_outcomes [] right = (refl, λ o c. absurd (omega (arith, c.1)))
    sound_outcomes (m ∷ ms) right =
        let here = right m (Contains-head m ms) in
        sound_followed (Leads m) (AreCanonical (m ∷ ms)) (reported_outcome board name files s m) (λ o. then_step (reported_outcomes board name files s ms) (λ os. Ok (o ∷ os)))
        (sound_outcome m here.0 here.1)
        (λ o first.
        sound_followed (AreCanonical ms) (AreCanonical (m ∷ ms)) (reported_outcomes board name files s ms) (λ os. Ok (o ∷ os)) (sound_outcomes ms (λ x later. right x (Contains-tail m ms x later)))
        (λ os rest. (
          ap₂ (λ x xs. x ∷ xs) first.0 rest.0,
          λ p c. elim (Contains-cons_cases o os p c) [
            | inl is ↦ subst (LeadsTo board s) is first.1
            | inr later ↦ rest.1 p later
          ],
        )))

    -- and so each result has a value
    all_valued : (ms : List Move) (os : List Outcome) → AreCanonical ms os → HasValues board s ms
    all_valued ms os each_valued m c =
        let o = Contains-map_cases (λ (p : Outcome). p.step) os m (subst (λ xs. Contains xs m) (sym each_valued.0) c) in
        let leads = each_valued.1 o.0 o.1 in
        (leads.0, subst (λ x. IsValue board (result_of s x) leads.0) o.2 leads.1)

-- ---- a position and its line

-- the report of it is right
record IsRight (board : Shape) (s : Sides) (t : PositionReport) : Type 0 where
  value : IsValue board s t.value
  lead : (o : Outcome) → Contains t.outcomes o → LeadsTo board s o
  known : HasValues board s (moves_of board s)
  best : AreBestOf board s t.value (moves_of board s) t.best

-- where a position is won or lost in some plies, there is a best move
never_stuck : (board : Shape) (s : Sides) (value : Value) (k : ℕ) (best : List Move) → IsValue board s value → depth_of value ≡ suc k → HasValues board s (moves_of board s)
    → AreBestOf board s value (moves_of board s) best → 0 < length best
unfolding is_lost
never_stuck board s value k best here deep known all = from (moves_of board s) refl
  where
    from : (ms : List Move) → moves_of board s ≡ ms → 0 < length best
    from [] none =
        let lost : is_lost 0 board s ≡ true = rw none refl in
        let over : IsValue board s (Lost 0) = record { lost = lost; least = λ n low. absurd (omega arith) } in
        let same : value ≡ Lost 0 = one_value board s value (Lost 0) here over in
        absurd (omega (arith, deep, ap depth_of same))
    from (m ∷ ms) some = some_listed board s value best here known all m (subst (λ xs. Contains xs m) (sym some) (Contains-head m ms))

one_less : (value next : Value) (k : ℕ) → depth_of value ≡ suc k → after_best value ≡ Some next → depth_of next ≡ k
one_less Draw next k deep e = absurd (omega (arith, deep))
one_less (Won zero) next k deep e = cc
one_less (Won (suc d)) next k deep e = let is : Lost d ≡ next = cc in sym (ap depth_of is) ∙ omega (arith, deep)
one_less (Lost zero) next k deep e = cc
one_less (Lost (suc d)) next k deep e = let is : Won d ≡ next = cc in sym (ap depth_of is) ∙ omega (arith, deep)

module _ (board : Shape) (few : board.points ≤ 24) (y : HasSymmetries board) (name : List ℕ) (files : Files) where
  near_of : (plies : ℕ) (s : Sides) → AreExactWithin board name files plies s → AreExactNear board name files s
  near_of zero s exact = exact
  near_of (suc plies) s exact = exact.0

  sound_reported : (s : Sides) → IsPosition board s → AreExactNear board name files s → IsSound (IsRight board s) (reported_of board name files s)
  unfolding reported_of
  sound_reported s position near =
      let moves : List Move = moves_of board s in
      sound_followed (IsValue board s) (IsRight board s) (reported_value board name files s) (λ value. then_step (reported_outcomes board name files s moves) (reported_from value))
      (sound_value board few y name files s position near.here)
      (λ value here.
      sound_followed (AreCanonical board few y name files s moves) (IsRight board s) (reported_outcomes board name files s moves) (reported_from value)
      (sound_outcomes board few y name files s moves (λ m c. (result-position board few s position m c, near.next m c)))
      (λ os each_valued.
      let known = all_valued board few y name files s moves os each_valued in
      let is : value_from os ≡ value = follows board s os each_valued.0 each_valued.1 value here known in
      let same : same_value value (value_from os) ≡ true = subst (λ v. same_value value v ≡ true) (sym is) (same_itself value) in
      subst (IsSound (IsRight board s)) (sym (from_same value os same))
      (record { value = here; lead = each_valued.1; known = known; best = best_right board s value os each_valued.0 each_valued.1 here })))

  -- the line of so many plies, from each position that has this report
  abbrev GoesOn : ℕ → Type 0
  GoesOn n = (s : Sides) → IsPosition board s → AreExactWithin board name files n s → (t : PositionReport) → IsRight board s t → depth_of t.value ≡ n
      → IsSound (IsBestLine board s t.value) (reported_line board name files n s (slice_get t.best 0))

  sound_line : (n : ℕ) → GoesOn n
  unfolding reported_line
  sound_line zero s position exact t right deep = deep
  sound_line (suc k) s position exact t right deep = at_first (sound_line k) (slice_get t.best 0) refl
    where
      stuck : None ≡ slice_get t.best 0 → ⊥
      stuck none = empty t.best none (never_stuck board s t.value k t.best right.value deep right.known right.best)
        where
          empty : (ms : List Move) → None ≡ slice_get ms 0 → 0 < length ms → ⊥
          empty [] none low = absurd (omega (arith, low))
          empty (m ∷ ms) none low = cc

      at_first : GoesOn k → (o : Option Move) → o ≡ slice_get t.best 0
          → IsSound (IsBestLine board s t.value) (with_first o (Ok []) (λ m. then_step (reported_of board name files (result_of s m)) (λ u.
          then_step (reported_line board name files k (result_of s m) (slice_get u.best 0)) (λ rest. Ok (played m (result_of s m) u.value ∷ rest)))))
      at_first on None first = absurd (stuck first)
      at_first on (Some m) first =
          let next : Sides = result_of s m in
          let there = (right.best.each m).0 (first_some t.best m first) in
          let leads : LeadsOn board s t.value m = there.1 in
          let lawful : IsPosition board next = result-position board few s position m there.0 in
          let within = exact.1 m there.0 in
          sound_followed (IsRight board next) (IsBestLine board s t.value) (reported_of board name files next)
          (λ u. then_step (reported_line board name files k next (slice_get u.best 0)) (λ rest. Ok (played m next u.value ∷ rest)))
          (sound_reported next lawful (near_of k next within))
          (λ u own.
          let same : leads.0 ≡ u.value = one_value board next leads.0 u.value leads.2 own.value in
          let orbit : after_best t.value ≡ Some u.value = leads.1 ∙ ap (λ v. Some v) same in
          sound_followed (IsBestLine board next u.value) (IsBestLine board s t.value) (reported_line board name files k next (slice_get u.best 0))
          (λ rest. Ok (played m next u.value ∷ rest)) (on next lawful within u own (one_less t.value u.value k deep orbit))
          (λ rest goes. (record { best = (there.0, (t.value, right.value, leads)); leads = refl }, orbit, own.value, goes)))

  -- ---- the report

  near_in : (what : Show) (s : Sides) → AreExactIn board name files what s → AreExactNear board name files s
  near_in show.Line s exact = exact 0
  near_in _ s exact = exact

  sound_shown_line : (what : Show) (s : Sides) → IsPosition board s → AreExactIn board name files what s → (t : PositionReport) → IsRight board s t
      → IsSound (λ line. HasLine board what s (position_report t.value t.best t.outcomes line)) (shown_line board name files what t s)
  sound_shown_line show.Line s position exact t right = sound_line (depth_of t.value) s position (exact (depth_of t.value)) t right refl
  sound_shown_line _ s position exact t right = refl

  sound_shown : (what : Show) (s : Sides) → IsPosition board s → AreExactIn board name files what s → IsSound (IsGame board what s) (reported_shown board name files what s)
  unfolding reported_shown
  sound_shown what s position exact =
      sound_followed (IsRight board s) (IsGame board what s) (reported_of board name files s)
      (λ t. then_step (shown_line board name files what t s) (λ line. Ok (position_report t.value t.best t.outcomes line))) (sound_reported s position (near_in what s exact))
      (λ t right.
      sound_followed (λ line. HasLine board what s (position_report t.value t.best t.outcomes line)) (IsGame board what s) (shown_line board name files what t s)
      (λ line. Ok (position_report t.value t.best t.outcomes line)) (sound_shown_line what s position exact t right)
      (λ line goes. record { value = right.value; best = best_all board s t.value t.best right.value right.best; leads = right.lead; line = goes }))

  pub game_reported : (what : Show) (s : Sides) → IsPosition board s → AreExactIn board name files what s → (answer : Result PositionReport Fault) → Agrees answer (reported_shown board name files what s) → IsExactAnswer board what s answer
  game_reported what s position exact (Ok t) h = subst (IsSound (IsGame board what s)) (agreed t (reported_shown board name files what s) h) (sound_shown what s position exact)
  game_reported what s position exact (Err refused) h = elim h [
    | inl e ↦ subst (IsSound (IsGame board what s)) e (sound_shown what s position exact)
    | inr memory ↦ λ is. let no : ◌≡◌ {A = Result PositionReport Fault} (Err fault.Disagree) (Err fault.Memory) = ap (λ f. Err f) (sym is) ∙ memory in cc
  ]
