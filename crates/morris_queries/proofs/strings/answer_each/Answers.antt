use Rattle.std.proofs.Common.{Bor, List, ℕ, ◌+◌, arith, map, take, refl, sym, subst}
use Rattle.std.proofs.lemmas.Result.{err_from_is_err_and}
use Rattle.morris_queries.specs.Answers.{AreOut}
use Rattle.morris_queries.proofs.AnswerLaws.{all_out, stopped_strings, strings_stopped, strings_more, counts_stopped, counts_on, text_next}
use Rattle.std.proofs.lemmas.List.{length-map, take_all}
use Rattle.morris_queries.proofs.FolderLaws.{stays_here, stays_on}
use Rattle.morris_queries.proofs.strings.answer_each.Goals as goal

pub loop-text-init : goal.loop-text-init
loop-text-init g c = record {
  stays = stays_here;
  unfailed = refl;
  out = λ name known start of begun. begun;
}

pub returns-in_err-take-clause-stays : goal.returns-in_err-take-clause-stays
returns-in_err-take-clause-stays g c = stays_on c.loop-text.invariant.stays c.answer_string-answered.ensures.stays

pub returns-in_err-take-clause-answer : goal.returns-in_err-take-clause-answer
returns-in_err-take-clause-answer g c = λ name known start of begun.
    let failed = err_from_is_err_and c.from_residual.result c.from_residual.ensures.1 in
    let all = map (λ (t : Bor (List ℕ)). t.now) c.args.strings.now in
    let new = g.O.Sink.contents c.answer_string-answered.new.output in
    rw (failed.1, failed.2)
    (stopped_strings g.B.Geometry.shape name known c.args.show all start new c.in_err-take.field-0.0
    (strings_stopped g.B.Geometry.shape name known c.args.show all (take c.loop-text.text-index all) (c.loop-text.text-index + 1) c.as_bytes.result.now start
    (g.O.Sink.contents c.loop-text.output) new c.loop-text.tally c.take.new.self c.answer_string-answered.result c.in_err-take.field-0.0
    (c.loop-text.invariant.out name known start of begun) (c.answer_string-answered.ensures.answer name known (c.loop-text.invariant.stays.still name known of)) c.in_err-take.ensures
    (text_next c.args.strings.now c.loop-text.text-index _ c.as_bytes.result.now c.loop-text-test.true c.as_bytes.ensures.value)))

pub returns-in_err-take-clause-counted : goal.returns-in_err-take-clause-counted
returns-in_err-take-clause-counted g c =
    let failed = err_from_is_err_and c.from_residual.result c.from_residual.ensures.1 in
    rw (failed.1, failed.2)
    (counts_stopped ℕ (g.O.Sink.failures c.args.output.now) (g.O.Sink.failures c.loop-text.output) (g.O.Sink.failures c.answer_string-answered.new.output)
    c.loop-text.tally c.take.new.self c.answer_string-answered.result c.in_err-take.field-0.0 c.loop-text.invariant.unfailed c.answer_string-answered.ensures.counted c.in_err-take.ensures)

pub loop-text-preserved : goal.loop-text-preserved
loop-text-preserved g c = record {
  stays = stays_on c.loop-text.invariant.stays c.answer_string-answered.ensures.stays;
  unfailed =
      counts_on (g.O.Sink.failures c.args.output.now) (g.O.Sink.failures c.loop-text.output) (g.O.Sink.failures c.answer_string-answered.new.output)
      c.loop-text.tally c.take.new.self c.answer_string-answered.result c.loop-text.invariant.unfailed c.answer_string-answered.ensures.counted c.in_ok-take.ensures;
  out = λ name known start of begun.
      subst (λ ts. AreOut g.B.Geometry.shape name known c.args.show ts start
      (g.O.Sink.contents c.answer_string-answered.new.output) c.take.new.self)
      (sym (text_next c.args.strings.now c.loop-text.text-index _ c.as_bytes.result.now c.loop-text-test.true c.as_bytes.ensures.value))
      (strings_more g.B.Geometry.shape name known c.args.show (take c.loop-text.text-index (map (λ (t : Bor (List ℕ)). t.now) c.args.strings.now))
      c.as_bytes.result.now start (g.O.Sink.contents c.loop-text.output) (g.O.Sink.contents c.answer_string-answered.new.output)
      c.loop-text.tally c.take.new.self c.answer_string-answered.result (c.loop-text.invariant.out name known start of begun)
      (c.answer_string-answered.ensures.answer name known (c.loop-text.invariant.stays.still name known of)) c.in_ok-take.ensures);
}

pub returns-clause-answer : goal.returns-clause-answer
returns-clause-answer g c = λ name known start of begun.
    let strings = map (λ (t : Bor (List ℕ)). t.now) c.args.strings.now in
    all_out g.B.Geometry.shape name known c.args.show strings start (g.O.Sink.contents c.loop-text.output) c.loop-text.tally
    (subst (λ ts. AreOut g.B.Geometry.shape name known c.args.show ts start (g.O.Sink.contents c.loop-text.output) c.loop-text.tally)
    (take_all c.loop-text.text-index strings (omega (arith, c.loop-text-test.false, length-map c.args.strings.now (λ (t : Bor (List ℕ)). t.now))))
    (c.loop-text.invariant.out name known start of begun))
