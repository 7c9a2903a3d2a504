-- How the answers to the lines of an input go on with each byte.
use Rattle.std.proofs.Common.{◌≡◌, ◌≢◌, ◌⊎◌, ℕ, ◌+◌, ◌≤◌, ◌<◌, min, Bool, true, false, List, [], ◌∷◌, ◌++◌, take, drop, get_or, length, codes, append_assoc, take-append-drop, Option, Result, Ok, Err, refl, sym, ap, subst, ◌∙◌, inl, inr, arith}
use Rattle.std.specs.Prelude.{is_err, nat_eq, nat_le}
use Rattle.std.specs.List.{flat_map}
use Rattle.std.specs.Io.KnownBytes.{Consumes, Keeps}
use Rattle.std.proofs.KnownBytes.{Consumes-kept}
use Rattle.std.proofs.lemmas.Bool.{cases_lt, lt-leb, ne_eqb}
use Rattle.std.proofs.lemmas.List.{length-take, take-append-le, take-take, take_all, take_min, take_more}
use Rattle.morris_board.specs.Boards.{Shape}
use Rattle.morris_board.specs.Positions.{read_of}
use Rattle.morris_board.specs.declared.faults.TextFault.TheVariants as unread
use Rattle.morris_moves.specs.MoveText.{move_text}
use Rattle.morris_lookup.specs.declared.outcomes.Outcome.{Outcome}
use Rattle.morris_files.specs.Files.{Files}
use Rattle.morris_queries.specs.declared.answer.Answered.{Answered}
use Rattle.morris_jobs.specs.declared.fault.Fault.{Fault}
use Rattle.morris_jobs.specs.declared.fault.Fault.TheVariants as fault
use Rattle.morris_queries.specs.declared.show.Show.{Show}
use Rattle.morris_queries.specs.declared.show.Show.TheVariants as show
use Rattle.morris_queries.specs.declared.strings.Tally.{Tally}
use Rattle.morris_queries.specs.Answers.{Answer, AnswersString, AreGiven, AreOut, GoesOut, IsAnswer, IsTallied}
use Rattle.morris_queries.specs.InputLines.{begun_after, is_passed_over, text_in, strings_ended, strings_in, whole_lines}
use Rattle.morris_queries.specs.LineAnswers.{AnswersFound, AnswersLines, IsReadTo, StopsIn}
use Rattle.morris_queries.specs.Printing.{answer_string, csv_line, csv_value, first_line, shown_byte, shown_text, reported_text}
use Rattle.morris_queries.specs.Reports.{Agrees, PositionReport, reported_to, reported_text as reported_of_text}
use Rattle.morris_queries.proofs.AnswerLaws.{all_out, strings_more, strings_stopped}
use Rattle.morris_queries.proofs.LineLaws.{begun_after-byte, begun_after-feed, passed_over-start, text_in-start, strings_ended-append, strings_ended-byte, strings_ended-feed, strings_ended-passed}

-- ---- the first 25 bytes of a text settle its answer

module _ (board : Shape) (few : board.points ≤ 24) (k t : List ℕ) (start : take 25 k ≡ take 25 t) where
  -- the two are one text, or both are too long for a position string
  same_or_long : (k ≡ t) ⊎ ((24 < length k) × (24 < length t))
  same_or_long = elim (cases_lt 24 (length k)) [
    | inl long ↦ inr (long, omega (arith, long, ap length start, length-take 25 k, length-take 25 t))
    | inr short ↦
        let also : length t ≤ 24 = omega (arith, short, ap length start, length-take 25 k, length-take 25 t) in
        inl (sym (take_all 25 k (omega (arith, short))) ∙ (start ∙ take_all 25 t (omega (arith, also))))
  ]

  read_long : (u : List ℕ) → 24 < length u → read_of board u ≡ Err unread.Length
  read_long u long =
      let other : nat_eq (length u) board.points ≡ false = ne_eqb _ _ (λ e. omega (arith, few, long, e)) in
      rw other refl

  read_same : read_of board k ≡ read_of board t
  read_same = elim same_or_long [
    | inl same ↦ ap (read_of board) same
    | inr long ↦ read_long k long.0 ∙ sym (read_long t long.1)
  ]

  abbrev shown_first : List ℕ → List ℕ
  shown_first bytes = flat_map shown_byte (take board.points bytes) ++ codes " (too long)"

  shown_long : (u : List ℕ) → 24 < length u → shown_text board.points u ≡ shown_first (take 25 u)
  shown_long u long =
      let past : nat_le (length u) board.points ≡ false = lt-leb _ _ (omega (arith, few, long)) in
      rw past (ap (λ l. flat_map shown_byte l ++ codes " (too long)") (sym (take-take board.points 25 u (omega (arith, few)))))

  shown_same : shown_text board.points k ≡ shown_text board.points t
  shown_same = elim same_or_long [
    | inl same ↦ ap (shown_text board.points) same
    | inr long ↦ shown_long k long.0 ∙ (ap shown_first start ∙ sym (shown_long t long.1))
  ]

  reported_same : (show : Show) (reported : PositionReport) → reported_text board show k reported ≡ reported_text board show t reported
  unfolding reported_text first_line csv_line
  reported_same show.Csv reported = ap (λ shown. flat_map (λ (o : Outcome). shown ++ codes "," ++ move_text o.step ++ csv_value o.value) reported.outcomes) shown_same
  reported_same _ reported = rw shown_same refl

  answer_same : (show : Show) (answer : Answer) → answer_string board show k answer ≡ answer_string board show t answer
  answer_same show (Ok reported) = reported_same show reported
  answer_same show (Err refused) = rw shown_same refl

  reported_of_same : (name : List ℕ) (files : Files) (show : Show) → reported_of_text board name files show k ≡ reported_of_text board name files show t
  unfolding reported_of_text
  reported_of_same name files show = ap (reported_to board name files show) read_same

  is_answer : (name : List ℕ) (known : Option Files) (show : Show) (answer : Answer) → IsAnswer board name known show k answer → IsAnswer board name known show t answer
  is_answer name known show answer h = record {
    refused = λ fault is. h.refused fault (read_same ∙ is);
    listed = λ s is. h.listed s (read_same ∙ is);
    reported = λ files there. subst (Agrees answer) (reported_of_same name files show) (h.reported files there);
    exact = λ files there s is right. h.exact files there s (read_same ∙ is) right;
  }

  pub answers_same : (name : List ℕ) (known : Option Files) (show : Show) (old new : Option (List ℕ)) (result : Result Answered ℕ)
      → AnswersString board name known show k old new result → AnswersString board name known show t old new result
  answers_same name known show old new result h =
      (h.0, is_answer name known show h.0 h.1, subst (λ whole. GoesOut old new whole (is_err h.0) result) (answer_same show h.0) h.2)

-- what is answered to the text of the first bytes of a line is answered to the line's text
answers_line : (board : Shape) → board.points ≤ 24 → (line retained name : List ℕ) (known : Option Files) (show : Show) (old new : Option (List ℕ)) (result : Result Answered ℕ)
    → retained ≡ take 26 line → AnswersString board name known show (text_in retained) old new result → AnswersString board name known show (text_in line) old new result
answers_line board few line retained name known show old new result is h =
    answers_same board few (text_in retained) (text_in line) (ap (λ l. take 25 (text_in l)) is ∙ text_in-start line) name known show old new result h

-- ---- from byte to byte

module _ (board : Shape) (name : List ℕ) (known : Option Files) (show : Show) where
  abbrev ReadTo : List ℕ → Option (List ℕ) → Option (List ℕ) → List ℕ → Tally → Type 0
  ReadTo read old new line tally = IsReadTo board name known show read old new line tally

  pub read_none : (old new : Option (List ℕ)) (line : List ℕ) (tally : Tally) → line ≡ [] → AreOut board name known show [] old new tally → ReadTo [] old new line tally
  unfolding whole_lines begun_after
  read_none old new line tally empty out = record { retained = empty; out = out }

  -- a byte that is no line feed
  pub read_byte : (read : List ℕ) (b : ℕ) (old new : Option (List ℕ)) (line more : List ℕ) (tally : Tally) → b ≢ 10
      → ((begun : List ℕ) → line ≡ take 26 begun → more ≡ take 26 (begun ++ b ∷ [])) → ReadTo read old new line tally
      → ReadTo (read ++ b ∷ []) old new more tally
  read_byte read b old new line more tally other retained h =
      let off : nat_eq b 10 ≡ false = ne_eqb b 10 other in
      record {
        retained = retained (begun_after [] read) h.retained ∙ ap (take 26) (sym (begun_after-byte read b off));
        out = subst (λ ts. AreOut board name known show ts old new tally) (sym (strings_ended-byte read b off)) h.out;
      }

  -- whether the line that is begun is passed over, by its first bytes
  begun_passed : (read line : List ℕ) (passed : Bool) → line ≡ take 26 (begun_after [] read) → is_passed_over (text_in line) ≡ passed
      → is_passed_over (text_in (begun_after [] read)) ≡ passed
  begun_passed read line passed retained is = sym (passed_over-start (begun_after [] read)) ∙ (ap (λ l. is_passed_over (text_in l)) (sym retained) ∙ is)

  -- a line feed, where its line is passed over
  pub read_passed : (read : List ℕ) (old new : Option (List ℕ)) (line more : List ℕ) (tally : Tally) → is_passed_over (text_in line) ≡ true → more ≡ []
      → ReadTo read old new line tally → ReadTo (read ++ 10 ∷ []) old new more tally
  read_passed read old new line more tally passed empty h = record {
    retained = empty ∙ ap (take 26) (sym (begun_after-feed read));
    out = subst (λ ts. AreOut board name known show ts old new tally) (sym (strings_ended-passed read (begun_passed read line true h.retained passed))) h.out;
  }

  -- a line feed, and the answer to its line
  pub read_feed : board.points ≤ 24 → (read : List ℕ) (old mid new : Option (List ℕ)) (line more : List ℕ) (before after : Tally) (answered : Result Answered ℕ)
      → is_passed_over (text_in line) ≡ false → AnswersString board name known show (text_in line) mid new answered
      → IsTallied before after answered (Ok tt) → more ≡ [] → ReadTo read old mid line before
      → ReadTo (read ++ 10 ∷ []) old new more after
  read_feed few read old mid new line more before after answered asked answers tallied empty h = record {
    retained = empty ∙ ap (take 26) (sym (begun_after-feed read));
    out =
        subst (λ ts. AreOut board name known show ts old new after) (sym (strings_ended-feed read (begun_passed read line false h.retained asked)))
        (strings_more board name known show (strings_ended read) (text_in (begun_after [] read)) old mid new before after answered h.out
        (answers_line board few (begun_after [] read) line name known show mid new answered h.retained answers) tallied);
  }

  pub feed_stops : board.points ≤ 24 → (read : List ℕ) (old mid new : Option (List ℕ)) (line : List ℕ) (before after : Tally) (answered : Result Answered ℕ) (refusal : Fault)
      → is_passed_over (text_in line) ≡ false → AnswersString board name known show (text_in line) mid new answered
      → IsTallied before after answered (Err refusal) → ReadTo read old mid line before
      → StopsIn board name known show (strings_ended (read ++ 10 ∷ [])) old new refusal
  feed_stops few read old mid new line before after answered refusal asked answers tallied h =
      let text : List ℕ = text_in (begun_after [] read) in
      subst (λ ts. StopsIn board name known show ts old new refusal) (sym (strings_ended-feed read (begun_passed read line false h.retained asked)))
      (strings_stopped board name known show (strings_ended read ++ text ∷ []) (strings_ended read) (length (strings_ended read ++ text ∷ [])) text old mid new before after answered refusal h.out
      (answers_line board few (begun_after [] read) line name known show mid new answered h.retained answers) tallied (take_all _ (strings_ended read ++ text ∷ []) (omega arith)))

  -- what stopped among some strings stopped among more
  stops_longer : (strings more : List (List ℕ)) (old new : Option (List ℕ)) (refusal : Fault) → StopsIn board name known show strings old new refusal
      → StopsIn board name known show (strings ++ more) old new refusal
  stops_longer strings more old new (fault.Write sent) h =
      let low : min h.0 (length strings) ≤ length strings = omega arith in
      let same : take h.0 strings ≡ take (min h.0 (length strings)) (strings ++ more) = sym (take-append-le _ strings more low ∙ take_min h.0 strings) in
      (min h.0 (length strings), h.1, subst (λ ts. AreGiven board name known show ts h.1) same h.2, h.3)
  stops_longer strings more old new _ h = absurd h

  pub stops_later : (read more : List ℕ) (old new : Option (List ℕ)) (refusal : Fault) → StopsIn board name known show (strings_ended read) old new refusal
      → StopsIn board name known show (strings_ended (read ++ more)) old new refusal
  stops_later read more old new refusal h =
      subst (λ ts. StopsIn board name known show ts old new refusal) (sym (strings_ended-append read more))
      (stops_longer (strings_ended read) _ old new refusal h)

  -- ---- the answer to the whole input

  pub lines_stopped : (before after old new : Option (List ℕ)) (read : List ℕ) (refusal : Fault) → Consumes before after read
      → StopsIn board name known show (strings_in read) old new refusal → AnswersLines board name known show before after old new (Err refusal)
  lines_stopped before after old new read (fault.Write sent) got stops = (read, got, stops)
  lines_stopped before after old new read _ got stops = absurd stops

  pub lines_unread : (before mid after : Option (List ℕ)) (old new : Option (List ℕ)) (read line : List ℕ) (tally : Tally) → Consumes before mid read → Keeps mid after
      → ReadTo read old new line tally → AnswersLines board name known show before after old new (Err fault.Read)
  lines_unread before mid after old new read line tally got retained here =
      (read, Consumes-kept before mid after read got retained, (tally.refused, all_out board name known show (strings_ended read) old new tally here.out))

  -- ---- where the place of the files was found

  pub lines_found : (before after old new : Option (List ℕ)) (result : Result ℕ Fault) → AnswersLines board name known show before after old new result
      → AnswersFound board name known show before after old new result
  lines_found before after old new (Ok refused) h = h
  lines_found before after old new (Err fault.Read) h = h
  lines_found before after old new (Err (fault.Write sent)) h = h
  lines_found before after old new (Err fault.Memory) h = h
  lines_found before after old new (Err _) h = absurd h

  -- it isn't the answer that there is none
  pub found_then : (before after old new : Option (List ℕ)) (result : Result ℕ Fault) → result ≡ Err fault.NoFolder
      → AnswersLines board name known show before after old new result → ⊥
  found_then before after old new result e h = subst (AnswersLines board name known show before after old new) e h

-- ---- the bytes of a chunk

pub read_more : (read bytes : List ℕ) (i : ℕ) → i < length bytes → (read ++ take i bytes) ++ get_or bytes i 0 ∷ [] ≡ read ++ take (i + 1) bytes
read_more read bytes i low = append_assoc read (take i bytes) (get_or bytes i 0 ∷ []) ∙ ap (λ l. read ++ l) (sym (take_more bytes i 0 low))

pub read_rest : (read bytes : List ℕ) (i : ℕ) → (read ++ take i bytes) ++ drop i bytes ≡ read ++ bytes
read_rest read bytes i = append_assoc read (take i bytes) (drop i bytes) ∙ ap (λ l. read ++ l) (take-append-drop i bytes)
