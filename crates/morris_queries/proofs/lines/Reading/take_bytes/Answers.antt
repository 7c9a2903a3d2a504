use Rattle.std.proofs.Common.{◌+◌, ◌∙◌, ◌++◌, List, ℕ, append-nil, arith, drop, refl, subst, sym, take}
use Rattle.std.proofs.lemmas.List.{take_all}
use Rattle.std.proofs.lemmas.Result.{err_from_is_err_and}
use Rattle.morris_queries.specs.InputLines.{strings_ended}
use Rattle.morris_queries.specs.LineAnswers.{StopsIn}
use Rattle.morris_queries.specs.Readings.{Stands}
use Rattle.morris_queries.proofs.LineAnswerLaws.{read_more, read_rest, stops_later}
use Rattle.morris_queries.proofs.ReadingLaws.{reading_here, reading_on}
use Rattle.morris_queries.proofs.lines.Reading.take_bytes.Goals as goal

pub loop-byte-init : goal.loop-byte-init
loop-byte-init g c = record {
  stays = reading_here;
  unfailed = refl;
  read = λ name known start read here. subst (λ (bs : List ℕ). Stands g.B.Geometry.shape g.L.Library.files g.O.Sink.contents name known start bs c.args.self.now) (sym (append-nil read)) here;
}

pub returns-in_err-take_byte-clause-stays : goal.returns-in_err-take_byte-clause-stays
returns-in_err-take_byte-clause-stays g c = reading_on c.loop-byte.invariant.stays c.in_err-take_byte.ensures.stays

pub returns-in_err-take_byte-clause-taken : goal.returns-in_err-take_byte-clause-taken
returns-in_err-take_byte-clause-taken g c =
    let failed = err_from_is_err_and c.from_residual.result c.from_residual.ensures.1 in
    rw (failed.1, failed.2)
    (λ name known start read here.
    let i = c.loop-byte.byte-index in
    let new = g.O.Sink.contents c.take_byte.new.self.output.now in
    let stops = (rw c.loop-byte.invariant.stays.show at (c.in_err-take_byte.ensures.taken name known start (read ++ take i c.args.bytes.now)
    (c.loop-byte.invariant.read name known start read here))) in
    let here = subst (λ (bs : List ℕ). StopsIn g.B.Geometry.shape name known c.args.self.now.show (strings_ended bs) start new c.in_err-take_byte.field-0.0)
    (read_more read c.args.bytes.now i c.loop-byte-test.true) stops in
    subst (λ (bs : List ℕ). StopsIn g.B.Geometry.shape name known c.args.self.now.show (strings_ended bs) start new c.in_err-take_byte.field-0.0)
    (read_rest read c.args.bytes.now (i + 1))
    (stops_later g.B.Geometry.shape name known c.args.self.now.show (read ++ take (i + 1) c.args.bytes.now) (drop (i + 1) c.args.bytes.now) start new
    c.in_err-take_byte.field-0.0 here))

pub loop-byte-preserved : goal.loop-byte-preserved
loop-byte-preserved g c = record {
  stays = reading_on c.loop-byte.invariant.stays c.in_ok-take_byte.ensures.stays;
  unfailed = c.in_ok-take_byte.ensures.counted ∙ c.loop-byte.invariant.unfailed;
  read = λ name known start read here.
      subst (λ (bs : List ℕ). Stands g.B.Geometry.shape g.L.Library.files g.O.Sink.contents name known start bs c.take_byte.new.self)
      (read_more read c.args.bytes.now c.loop-byte.byte-index c.loop-byte-test.true)
      (c.in_ok-take_byte.ensures.taken name known start (read ++ take c.loop-byte.byte-index c.args.bytes.now) (c.loop-byte.invariant.read name known start read here));
}

pub returns-clause-taken : goal.returns-clause-taken
returns-clause-taken g c = λ name known start read here.
    subst (λ (bs : List ℕ). Stands g.B.Geometry.shape g.L.Library.files g.O.Sink.contents name known start (read ++ bs) c.loop-byte.self)
    (take_all c.loop-byte.byte-index c.args.bytes.now (omega (arith, c.loop-byte-test.false)))
    (c.loop-byte.invariant.read name known start read here)
