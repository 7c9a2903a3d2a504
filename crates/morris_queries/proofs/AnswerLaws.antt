-- What an answer is, and how what went out for one string, and then for the next, makes up what
-- went out for both.
use Rattle.std.proofs.Common.{◌≡◌, ℕ, ◌+◌, ◌^◌, ◌<◌, ◌≤◌, List, [], ◌∷◌, ◌++◌, Bor, get_or, take, map, length, Option, Some, Result, Ok, Err, refl, sym, ap, subst, ◌∙◌, inl, inr, arith, length-append, append-nil, append_assoc}
use Rattle.std.specs.Prelude.{IfOk, is_err, if◌then◌else◌}
use Rattle.std.specs.Io.KnownBytes.{Appends}
use Rattle.std.specs.List.{flat_map}
use Rattle.std.proofs.KnownBytes.{Appends-trans}
use Rattle.std.proofs.Math.Seq.{take-append-add}
use Rattle.std.proofs.lemmas.List.{take_more, get_or-map, length-map, map-append}
use Rattle.std.proofs.lemmas.Grind.{flat_map-append}
use Rattle.std.proofs.lemmas.List.Elements.{Contains-push_cases}
use Rattle.morris_board.specs.Boards.{Shape}
use Rattle.morris_board.specs.Positions.{Sides, read_of}
use Rattle.morris_board.specs.Streams.{CountsFailure}
use Rattle.morris_board.specs.declared.faults.TextFault.{TextFault}
use Rattle.morris_board.specs.Printers.{WentOut}
use Rattle.morris_files.specs.Files.{Files}
use Rattle.morris_jobs.specs.Faults.{text_fault, CountsWrites}
use Rattle.morris_queries.specs.declared.answer.Answered.{Answered}
use Rattle.morris_queries.specs.declared.show.Show.{Show}
use Rattle.morris_queries.specs.declared.show.Show.TheVariants as show
use Rattle.morris_jobs.specs.declared.fault.Fault.{Fault}
use Rattle.morris_jobs.specs.declared.fault.Fault.TheVariants as fault
use Rattle.morris_queries.specs.declared.strings.Tally.{Tally}
use Rattle.morris_queries.specs.Answers.{Answer, IsAnswer, IsExactAnswer, Given, AreGiven, AreOut, AnswersString, AnswersStrings, Begins, WentIn, IsTallied, count_up_to, output_of, count_refused}
use Rattle.morris_queries.specs.LineAnswers.{StopsIn}
use Rattle.morris_queries.specs.Printing.{answer_string, head_text}
use Rattle.morris_queries.specs.Exactness.{AreExactIn}
use Rattle.morris_queries.specs.Reports.{Agrees, IsListed, reported_to, reported_text, reported_shown}

-- ---- one answer

-- a text that isn't a position string
pub answer_refused : (board : Shape) (name : List ℕ) (known : Option Files) (show : Show) (text : List ℕ) (fault : TextFault)
    → read_of board text ≡ Err fault → IsAnswer board name known show text (Err (text_fault fault))
unfolding reported_text
answer_refused board name known show text fault e = record {
  refused = λ other is. let same : fault ≡ other = cc in ap (λ f. Err (text_fault f)) same;
  listed = λ s is. cc;
  reported = λ files there. inl (ap (reported_to board name files show) e);
  exact = λ files there s is right. cc;
}

-- a position's
pub answer_reported : (board : Shape) (name : List ℕ) (known : Option Files) (show : Show) (text : List ℕ) (s : Sides) (answer : Answer)
    → read_of board text ≡ Ok s → IfOk answer (IsListed board s)
    → ((files : Files) → known ≡ Some files → Agrees answer (reported_shown board name files show s))
    → ((files : Files) → known ≡ Some files → AreExactIn board name files show s → IsExactAnswer board show s answer)
    → IsAnswer board name known show text answer
unfolding reported_text
answer_reported board name known show text s answer e legal reported exact = record {
  refused = λ other is. cc;
  listed = λ u is. let same : s ≡ u = cc in subst (λ v. IfOk answer (IsListed board v)) same legal;
  reported = λ files there. subst (Agrees answer) (sym (ap (reported_to board name files show) e)) (reported files there);
  exact = λ files there u is right.
      let same : s ≡ u = cc in
      subst (λ v. IsExactAnswer board show v answer) same (exact files there (subst (AreExactIn board name files show) (sym same) right));
}

-- ---- what went out

-- the first bytes of a text, of which there are few enough to be counted
pub went_in : (old new : Option (List ℕ)) (text : List ℕ) (sent : ℕ) → WentOut {T = ℕ} old new text (Err sent) → length text < 2 ^ 63 → WentIn old new text sent
went_in old new text sent out few = (sent, out.0, out.1, omega (arith, out.0, few))

-- ---- strings that were answered

-- what stands before all answers is short
head_short : (kind : Show) → length (head_text kind) ≤ 32
head_short show.Csv = omega arith
head_short _ = omega arith

module _ (board : Shape) (name : List ℕ) (known : Option Files) (show : Show) where
  none_given : AreGiven board name known show [] []
  none_given = record { listed = refl; each = λ g c. absurd (omega (arith, c.1)) }

  pub out_begun : (old new : Option (List ℕ)) (tally : Tally) → Begins show old new (Ok tally) → AreOut board name known show [] old new tally
  out_begun old new tally begun = record {
    given = [];
    are = none_given;
    out = subst (Appends old new) (sym (append-nil (head_text show))) begun.0;
    sent = omega (arith, begun.1, head_short show, ap length (append-nil (head_text show)));
    refused = begun.2;
  }

  -- a write of it failed
  pub begun_failed : (strings : List (List ℕ)) (old new : Option (List ℕ)) (sent : ℕ) → Begins show old new (Err sent)
      → AnswersStrings board name known show strings old new (Err (fault.Write sent))
  begun_failed strings old new sent begun = (0, [], none_given, subst (λ whole. WentIn old new whole sent) (sym (append-nil (head_text show))) begun)

  given_more : (strings : List (List ℕ)) (text : List ℕ) (given : Given) (answer : Answer) → AreGiven board name known show strings given
      → IsAnswer board name known show text answer → AreGiven board name known show (strings ++ text ∷ []) (given ++ (text, answer) ∷ [])
  given_more strings text given answer are is = record {
    listed = map-append (λ (g : List ℕ × Answer). g.0) given ((text, answer) ∷ []) ∙ ap (λ ts. ts ++ text ∷ []) are.listed;
    each = λ g c. elim (Contains-push_cases given (text, answer) g c) [
      | inl earlier ↦ are.each g earlier
      | inr same ↦ subst (λ (h : List ℕ × Answer). IsAnswer board name known show h.0 h.1) same is
    ];
  }

  printed_more : (given : Given) (text : List ℕ) (answer : Answer)
      → output_of board show (given ++ (text, answer) ∷ []) ≡ output_of board show given ++ answer_string board show text answer
  printed_more given text answer =
      let print : List ℕ × Answer → List ℕ = λ g. answer_string board show g.0 g.1 in
      ap (λ ys. head_text show ++ ys) (flat_map-append print given ((text, answer) ∷ []))
      ∙ (sym (append_assoc (head_text show) (flat_map print given) (flat_map print ((text, answer) ∷ [])))
      ∙ ap (λ ys. output_of board show given ++ ys) (append-nil (answer_string board show text answer)))

  refused_more : (given : Given) (text : List ℕ) (answer : Answer) → count_refused (given ++ (text, answer) ∷ []) ≡ count_refused given + (if is_err answer then 1 else 0)
  refused_more [] text (Ok t) = refl
  refused_more [] text (Err fault) = refl
  refused_more (g ∷ given) text answer = omega (arith, refused_more given text answer)

  counts : (was n one m now : ℕ) → was ≡ count_up_to n → now ≡ count_up_to (was + one) → m ≡ n + one → now ≡ count_up_to m
  counts was n one m now was_is now_is m_is = omega (arith, was_is, now_is, m_is)

  -- where a write of the next answer failed, it stops among strings that begin with these
  pub strings_stopped : (all strings : List (List ℕ)) (n : ℕ) (text : List ℕ) (old mid new : Option (List ℕ)) (before after : Tally) (answered : Result Answered ℕ) (refusal : Fault)
      → AreOut board name known show strings old mid before → AnswersString board name known show text mid new answered
      → IsTallied before after answered (Err refusal) → take n all ≡ strings ++ text ∷ [] → StopsIn board name known show all old new refusal
  strings_stopped all strings n text old mid new before after (Ok done) refusal out next tallied step = let no : Err refusal ≡ Ok tt = tallied.0 in cc
  strings_stopped all strings n text old mid new before after (Err sent) refusal out next tallied step =
      let answer : Answer = next.0 in
      let whole : List ℕ = answer_string board show text answer in
      let given : Given = out.given ++ (text, answer) ∷ [] in
      let printed : List ℕ = output_of board show out.given in
      let went : ℕ = next.2.0 in
      let is : fault.Write (count_up_to (before.sent + sent)) ≡ refusal = cc in
      let more : length (output_of board show given) ≡ length printed + length whole = ap length (printed_more out.given text answer) ∙ length-append printed whole in
      subst (StopsIn board name known show all old new) is (
        n,
        given,
        subst (λ ts. AreGiven board name known show ts given) (sym step) (given_more strings text out.given answer out.are next.1),
        (
          length printed + went,
          omega (arith, more, next.2.1),
          subst (λ ys. Appends old new (take (length printed + went) ys)) (sym (printed_more out.given text answer))
              (subst (Appends old new) (sym (take-append-add printed whole went)) (Appends-trans old mid new printed (take went whole) out.out next.2.2)),
          omega (arith, out.sent, next.2.3),
        ),
      )

  -- what stops among strings is answered of them
  pub stopped_strings : (strings : List (List ℕ)) (old new : Option (List ℕ)) (refusal : Fault) → StopsIn board name known show strings old new refusal
      → AnswersStrings board name known show strings old new (Err refusal)
  stopped_strings strings old new (fault.Write sent) h = h
  stopped_strings strings old new _ h = absurd h

  -- the answers to all strings went out
  pub all_out : (strings : List (List ℕ)) (old new : Option (List ℕ)) (tally : Tally) → AreOut board name known show strings old new tally
      → AnswersStrings board name known show strings old new (Ok tally.refused)
  all_out strings old new tally h = (h.given, h.are, h.out, h.refused)

  -- where none failed, the answers to one string more are out
  pub strings_more : (strings : List (List ℕ)) (text : List ℕ) (old mid new : Option (List ℕ)) (before after : Tally) (answered : Result Answered ℕ)
      → AreOut board name known show strings old mid before → AnswersString board name known show text mid new answered
      → IsTallied before after answered (Ok tt) → AreOut board name known show (strings ++ text ∷ []) old new after
  strings_more strings text old mid new before after (Err sent) all next tallied = cc
  strings_more strings text old mid new before after (Ok done) all next tallied =
      let answer : Answer = next.0 in
      let whole : List ℕ = answer_string board show text answer in
      record {
        given = all.given ++ (text, answer) ∷ [];
        are = given_more strings text all.given answer all.are next.1;
        out = subst (Appends old new) (sym (printed_more all.given text answer)) (Appends-trans old mid new (output_of board show all.given) whole all.out next.2.0);
        sent = omega (arith, tallied.1, all.sent, next.2.1, ap length (printed_more all.given text answer), length-append (output_of board show all.given) whole);
        refused =
            let now : after.refused ≡ count_up_to (before.refused + (if is_err answer then 1 else 0)) = rw next.2.2 at tallied.2 in
            counts (before.refused) (count_refused all.given) (if is_err answer then 1 else 0) (count_refused (all.given ++ (text, answer) ∷ [])) after.refused all.refused now
            (refused_more all.given text answer);
      }

-- the failures of the sink, after what was counted of the next string
pub counts_stopped : (T : Type 0) (old mid new : ℕ) (before after : Tally) (answered : Result Answered ℕ) (refusal : Fault) → mid ≡ old → CountsFailure mid new answered
    → IsTallied before after answered (Err refusal) → CountsWrites {T = T} old new (Err refusal)
counts_stopped T old mid new before after (Ok done) refusal same counted tallied = let no : Err refusal ≡ Ok tt = tallied.0 in cc
counts_stopped T old mid new before after (Err sent) refusal same counted tallied =
    let is : fault.Write (count_up_to (before.sent + sent)) ≡ refusal = cc in
    subst (λ r. CountsWrites {T = T} old new (Err r)) is (counted ∙ ap (λ n. n + 1) same)

pub counts_on : (old mid new : ℕ) (before after : Tally) (answered : Result Answered ℕ) → mid ≡ old → CountsFailure mid new answered
    → IsTallied before after answered (Ok tt) → new ≡ old
counts_on old mid new before after (Ok done) same counted tallied = counted ∙ same
counts_on old mid new before after (Err sent) same counted tallied = cc

-- ---- a list of strings

pub text_next : (strings : List (Bor (List ℕ))) (i : ℕ) (d : Bor (List ℕ)) (text : List ℕ) → i < length strings → text ≡ (get_or strings i d).now
    → take (i + 1) (map (λ (t : Bor (List ℕ)). t.now) strings) ≡ take i (map (λ (t : Bor (List ℕ)). t.now) strings) ++ text ∷ []
text_next strings i d text low is =
    let all : List (List ℕ) = map (λ (t : Bor (List ℕ)). t.now) strings in
    take_more all i d.now (omega (arith, length-map strings (λ (t : Bor (List ℕ)). t.now)))
    ∙ ap (λ t. take i all ++ t ∷ []) (get_or-map (λ (t : Bor (List ℕ)). t.now) strings i d d.now low ∙ sym is)
