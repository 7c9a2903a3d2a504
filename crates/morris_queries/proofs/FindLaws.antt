-- What looking for positions answers, by what became of its parts.
use Rattle.std.proofs.Common.{◌≡◌, ℕ, ◌+◌, ◌-◌, ◌^◌, ◌<◌, ◌≤◌, ◌∙◌, Bool, true, false, List, [], Option, Result, Ok, Err, refl, sym, subst, inl, inr, arith, length, length-append}
use Rattle.std.specs.Prelude.{IfSome, IsOk, if◌then◌else◌}
use Rattle.std.proofs.KnownBytes.{Keeps-refl}
use Rattle.std.proofs.lemmas.Bool.{cases_Bool, false_from_ne_true}
use Rattle.morris_board.specs.Boards.{Shape}
use Rattle.morris_board.specs.Positions.{Sides, text_of}
use Rattle.morris_board.specs.Streams.{CountsFailure}
use Rattle.morris_board.specs.Symmetries.{HasSymmetries}
use Rattle.morris_board.specs.declared.streams.Failed.{Failed}
use Rattle.morris_board.specs.declared.streams.printer.Printer.{Printer}
use Rattle.morris_board.specs.Printers.{IsNew, Takes, WentOut, has_failed_of, held_of, sent_of, sink_of, answer_of}
use Rattle.morris_board.proofs.LengthLaws.{flat_map_few}
use Rattle.morris_board.proofs.PrinterLaws.{all_counted, all_told, ends}
use Rattle.morris_index.specs.Pairs.{IsPair}
use Rattle.morris_pairs.specs.Counting.{AreTallies, AreTalliesOf, CodedEntries, table_of}
use Rattle.morris_pairs.specs.Entries.{entry_count}
use Rattle.morris_pairs.specs.declared.counting.CountFault.{CountFault}
use Rattle.morris_pairs.specs.declared.counting.CountFault.TheVariants as count
use Rattle.morris_probe.specs.Lines.{line, number_line}
use Rattle.morris_probe.proofs.LengthLaws.{text_few}
use Rattle.morris_jobs.specs.declared.fault.Fault.{Fault}
use Rattle.morris_jobs.specs.declared.fault.Fault.TheVariants as fault
use Rattle.morris_jobs.specs.Faults.{CountsWrites, Prints, count_fault}
use Rattle.morris_jobs.proofs.CountedLaws.{both_some, some_map}
use Rattle.morris_queries.specs.declared.find.Shown.{Shown}
use Rattle.morris_queries.specs.declared.find.Shown.TheVariants.{Count, Strings}
use Rattle.morris_queries.specs.declared.wanted.Kind.{Kind}
use Rattle.morris_queries.specs.declared.wanted.Wanted.{Wanted}
use Rattle.morris_queries.specs.declared.wanted.Wanted.TheVariants.{Deepest, Every}
use Rattle.morris_queries.specs.Found.{AnswersFind, AreKinds, PrintsBefore, PutsKinds, end_of, found_text, has_shown, kind_sum}
use Rattle.morris_queries.specs.Wanted.{AreKindsBy}
use Rattle.morris_queries.proofs.FoundLaws.{Takes-failed, many_both, not_ok, tallied_shown}

-- why positions aren't counted: want of memory, or a code that can't be read
pub refused_find : {T A : Type 0} (board : Shape) (entries : CodedEntries) (all : Bool) (wanted : Wanted) (shown : Shown) (output : Option (List ℕ)) (r : Result T Fault)
    (refused : CountFault) → r ≡ Err (count_fault refused) → (entries.unfailing ≡ true → ◌≡◌ {A = Result A CountFault} (Err refused) (Err count.Read) → ⊥)
    → AnswersFind board entries all wanted shown output output r
refused_find board entries all wanted shown output r count.Memory is sure = inl (is, Keeps-refl output)
refused_find board entries all wanted shown output r count.Read is sure =
    inr (inl (is, false_from_ne_true entries.unfailing (λ unfailing. sure unfailing refl), nothing shown))
  where
    nothing : (s : Shown) → PrintsBefore board entries all wanted s output output
    nothing Count = Keeps-refl output
    nothing (Strings most) = inl (Keeps-refl output)

are_kinds : (says : Sides → ℕ → Type 0) (wanted : Wanted) (tallies : List ℕ) (kinds : Option Kind × Option Kind) → AreTallies says tallies → AreKindsBy wanted tallies kinds
    → AreKinds says wanted kinds
are_kinds says (Every kind) tallies kinds h by = by
are_kinds says Deepest tallies kinds h by = (tallies, h, by)

module _ (board : Shape) (few : board.points ≤ 24) (y : HasSymmetries board) (entries : CodedEntries) (pair : IsPair board.points entries.pair) (all : Bool)
    (wanted : Wanted) (tallies : List ℕ) (kinds : Option Kind × Option Kind)
    (counted : IfSome entries.stated (λ known. AreTalliesOf board (table_of entries known) all 0 (entry_count board board.points entries.layout entries.pair) tallies))
    (by : AreKindsBy wanted tallies kinds) where
  pub kinds_stated : IfSome entries.stated (λ known. AreKinds (has_shown board (table_of entries known) all) wanted kinds)
  kinds_stated =
      some_map entries.stated _ _
      (λ known h. are_kinds (has_shown board (table_of entries known) all) wanted tallies kinds (tallied_shown board few y (table_of entries known) pair all tallies h) by)
      counted

  pub count_answered : {T : Type 0} (old new : Option (List ℕ)) (r : Result T Fault)
      → Prints old new (number_line [] (kind_sum kinds.0 tallies + kind_sum kinds.1 tallies)) r → AnswersFind board entries all wanted Count old new r
  count_answered old new r printed =
      let sum : ℕ = kind_sum kinds.0 tallies + kind_sum kinds.1 tallies in
      inr (inr (
        (sum, printed),
        both_some entries.stated _ _ _ (λ known are h. (kinds, sum, are, many_both board few y (table_of entries known) pair all tallies h kinds, printed)) kinds_stated
            counted,
      ))

-- ---- strings that went into a printer that was new

-- the strings are few enough to be counted
strings_few : (board : Shape) (ps : List Sides) → board.points ≤ 24 → length ps ≤ 2 ^ 51 → length (found_text board ps) < 2 ^ 64
unfolding found_text
strings_few board ps points few = omega (arith, flat_map_few (λ s. line (text_of board s)) 25 (line_few board points) ps, few)
  where
    line_few : (board : Shape) → board.points ≤ 24 → (s : Sides) → length (line (text_of board s)) ≤ 25
    line_few board points s = simp length-append (omega (arith, points, text_few board s))

-- where all is reported as sent, no write has failed
well_reported : (failed : Bool) (n sent : ℕ) → ◌≡◌ {A = Result ℕ ℕ} (if failed then Err n else Ok n) (Ok sent) → failed ≡ false
well_reported false n sent is = refl
well_reported true n sent is = cc

-- what was counted of the writes
pub ended_counted : (old new : ℕ) (reported : Result ℕ ℕ) (read : Result (Unit {0}) Failed) → CountsFailure old new reported → CountsWrites old new (end_of reported read)
ended_counted old new (Err sent) read h = h
ended_counted old new (Ok sent) (Err why) h = h
ended_counted old new (Ok sent) (Ok done) h = h

module _ {S : Type 0} (contents : S → Option (List ℕ)) (failures : S → ℕ) (board : Shape) (points : board.points ≤ 24) (entries : CodedEntries) (all : Bool)
    (wanted : Wanted) (kinds : Option Kind × Option Kind) (most : ℕ) (r : Result (Unit {0}) Failed) (a m b : Printer S) (new : IsNew a)
    (are : IfSome entries.stated (λ known. AreKinds (has_shown board (table_of entries known) all) wanted kinds))
    (put : PutsKinds contents failures board entries all kinds most a m r) (last : Takes contents failures m b []) (empty : held_of b ≡ []) where
  abbrev text : List ℕ
  text = found_text board put.positions

  went : (reported : Result ℕ ℕ) → reported ≡ answer_of b → WentOut (contents (sink_of a)) (contents (sink_of b)) text reported
  went reported is =
      subst (λ (q : Result ℕ ℕ). WentOut (contents (sink_of a)) (contents (sink_of b)) text q) (sym is)
      (all_told contents failures a b text new empty (strings_few board put.positions points put.few) (ends put.takes last))

  unfailed : (sent : ℕ) → Ok sent ≡ answer_of b → has_failed_of m ≡ false
  unfailed sent is = elim (cases_Bool (has_failed_of m)) [
    | inl failed ↦
        let bad : true ≡ false = sym (Takes-failed contents failures m b [] failed last) ∙ well_reported (has_failed_of b) (sent_of b) sent (sym is) in
        cc
    | inr well ↦ well
  ]

  abbrev Answered : Result (Unit {0}) Fault → Type 0
  Answered result = AnswersFind board entries all wanted (Strings most) (contents (sink_of a)) (contents (sink_of b)) result

  -- the strings of all that are found, or the first bytes of these
  printed : (result : Result (Unit {0}) Fault) → Prints (contents (sink_of a)) (contents (sink_of b)) text result → (IsOk result → IsOk r × (has_failed_of m ≡ false)) → Answered result
  printed result out whole = inr (inr (
    (put.positions, out),
    both_some entries.stated _ _ _
        (λ known of part. (kinds, part.0, put.positions, of, part.1, (λ ok. let all_read = whole ok in part.2 all_read.0 all_read.1), part.3, out)) are put.found,
  ))

  -- what is answered, where a code can't be read only if a read may fail
  pub strings_answered : (reported : Result ℕ ℕ) → reported ≡ answer_of b → (entries.unfailing ≡ true → IsOk r) → Answered (end_of reported r)
  strings_answered reported is sure = by reported r is refl
    where
      by : (q : Result ℕ ℕ) (p : Result (Unit {0}) Failed) → q ≡ answer_of b → r ≡ p → Answered (end_of q p)
      by (Err sent) p is same = printed (Err (fault.Write sent)) (went (Err sent) is) (λ ok. not_ok (Unit {0}) Fault _ (fault.Write sent) ok)
      by (Ok sent) (Err why) is same = inr (inl (
        refl,
        false_from_ne_true entries.unfailing (λ unfailing. not_ok (Unit {0}) Failed _ why (subst (λ p. IsOk p) same (sure unfailing))),
        inr (put.positions, went (Ok sent) is, both_some entries.stated _ _ _ (λ known of part. (kinds, part.0, of, part.1, part.3)) are put.found),
      ))
      by (Ok sent) (Ok done) is same = printed (Ok tt) (went (Ok sent) is) (λ ok. (subst (λ p. IsOk p) (sym same) refl, unfailed sent is))

  pub strings_counted : (reported : Result ℕ ℕ) → failures (sink_of a) < 2 ^ 64 - 1 → reported ≡ answer_of b → CountsWrites (failures (sink_of a)) (failures (sink_of b)) (end_of reported r)
  strings_counted reported room is =
      ended_counted (failures (sink_of a)) (failures (sink_of b)) reported r
      (subst (λ (q : Result ℕ ℕ). CountsFailure (failures (sink_of a)) (failures (sink_of b)) q) (sym is)
      (all_counted contents failures a b text new empty room (ends put.takes last)))
