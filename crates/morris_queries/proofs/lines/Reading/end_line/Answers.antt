use Rattle.std.proofs.Common.{◌≡◌, ◌∙◌, ap, arith, true, false, sym}
use Rattle.std.proofs.lemmas.Result.{err_from_is_err_and}
use Rattle.morris_queries.specs.InputLines.{is_passed_over, text_in}
use Rattle.morris_queries.proofs.LineAnswerLaws.{feed_stops, read_feed, read_passed}
use Rattle.morris_queries.proofs.lines.Reading.end_line.Goals as goal
use Rattle.morris_queries.proofs.lines.Reading.end_line.Goals.{then-not-is_passed_over+in_ok-take, else-not-is_passed_over}

pub returns-in_err-take-clause-taken : goal.returns-in_err-take-clause-taken
returns-in_err-take-clause-taken g c =
    let failed = err_from_is_err_and c.from_residual.result c.from_residual.ensures.1 in
    let asked : is_passed_over (text_in c.args.self.now.line.items) ≡ false =
    ap is_passed_over (ap text_in (sym c.as_slice.ensures.value) ∙ sym c.text_of-text.ensures) ∙ (sym c.is_passed_over.ensures ∙ c.if-not-is_passed_over.true) in
    rw (failed.1, failed.2)
    (λ name known start read here.
    feed_stops g.B.Geometry.shape name known c.args.self.now.show (omega (arith, g.met.B.Geometry.few, g.met.B.Geometry.point_count)) read start (g.O.Sink.contents c.args.self.now.output.now)
    (g.O.Sink.contents c.answer_string-answered.new.output) c.args.self.now.line.items c.args.self.now.tally c.take.new.self c.answer_string-answered.result c.in_err-take.field-0.0
    asked (rw (c.text_of-text.ensures, c.as_slice.ensures.value) at (c.answer_string-answered.ensures.answer name known here.of)) c.in_err-take.ensures here.to)

pub returns-clause-taken : goal.returns-clause-taken
returns-clause-taken g c = elim c.if-not-is_passed_over.branch [
  | then-not-is_passed_over+in_ok-take w ↦ λ name known start read here.
      let asked : is_passed_over (text_in c.args.self.now.line.items) ≡ false =
      ap is_passed_over (ap text_in (sym c.as_slice.ensures.value) ∙ sym c.text_of-text.ensures) ∙ (sym c.is_passed_over.ensures ∙ w.if-not-is_passed_over.true) in
      rw w.self-is (record {
        of = w.answer_string-answered.ensures.stays.still name known here.of;
        to =
            read_feed g.B.Geometry.shape name known c.args.self.now.show (omega (arith, g.met.B.Geometry.few, g.met.B.Geometry.point_count)) read start (g.O.Sink.contents c.args.self.now.output.now)
            (g.O.Sink.contents w.answer_string-answered.new.output) c.args.self.now.line.items c.clear.new.self.items c.args.self.now.tally w.take.new.self w.answer_string-answered.result
            asked (rw (c.text_of-text.ensures, c.as_slice.ensures.value) at (w.answer_string-answered.ensures.answer name known here.of)) w.in_ok-take.ensures c.clear.ensures here.to;
      })
  | else-not-is_passed_over w ↦ λ name known start read here.
      let passed : is_passed_over (text_in c.args.self.now.line.items) ≡ true =
      ap is_passed_over (ap text_in (sym c.as_slice.ensures.value) ∙ sym c.text_of-text.ensures) ∙ (sym c.is_passed_over.ensures ∙ w.if-not-is_passed_over.false) in
      rw w.self-is (record {
        of = here.of;
        to =
            read_passed g.B.Geometry.shape name known c.args.self.now.show read start (g.O.Sink.contents c.args.self.now.output.now)
            c.args.self.now.line.items c.clear.new.self.items c.args.self.now.tally passed c.clear.ensures here.to;
      })
]
