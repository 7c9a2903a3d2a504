use Rattle.std.proofs.Common.{◌≡◌, ◌∙◌, ◌∷◌, ◌++◌, ◌<◌, [], ℕ, List, Option, append-nil, arith, inl, inr, length, length-append, refl, subst, take}
use Rattle.std.specs.Io.KnownBytes.{Consumes}
use Rattle.std.proofs.KnownBytes.{Consumes-nil, Consumes-trans, Keeps-refl}
use Rattle.std.proofs.lemmas.List.{length-take-le}
use Rattle.std.proofs.lemmas.Result.{err_from_is_err_and}
use Rattle.morris_queries.specs.InputLines.{strings_in}
use Rattle.morris_queries.proofs.AnswerLaws.{all_out}
use Rattle.morris_queries.proofs.LineAnswerLaws.{lines_stopped, lines_unread, stops_later}
use Rattle.morris_queries.proofs.ReadingLaws.{reading_here, reading_on, stopped_reads}
use Rattle.morris_queries.proofs.lines.Reading.read_all.Goals as goal

-- the last read gave nothing
consumed_all : (before mid after : Option (List ℕ)) (read chunk : List ℕ) (n : ℕ) → Consumes before mid read → n ≡ 0 → Consumes mid after (take n chunk) → Consumes before after read
consumed_all before mid after read chunk n got none last =
    subst (Consumes before after) (append-nil read) (Consumes-trans before mid after read [] got (subst (λ k. Consumes mid after (take k chunk)) none last))

pub loop-init : goal.loop-init
loop-init g c = record {
  stays = reading_here;
  unread = refl;
  unfailed = refl;
  read = λ name known start here. ([], Consumes-nil (g.I.Source.remaining c.args.input.now), here, omega arith);
}

-- the input is at its end, which ends its last line: a write of the answer failed, or all went out
pub returns-in_err-end_line-in-Ok-eq0-clause-stays : goal.returns-in_err-end_line-in-Ok-eq0-clause-stays
returns-in_err-end_line-in-Ok-eq0-clause-stays g c = reading_on c.loop.invariant.stays c.in_err-end_line-in-Ok-eq0.ensures.stays

pub returns-in_err-end_line-in-Ok-eq0-clause-answer : goal.returns-in_err-end_line-in-Ok-eq0-clause-answer
returns-in_err-end_line-in-Ok-eq0-clause-answer g c = λ name known start here.
    let failed = err_from_is_err_and c.from_residual.result c.from_residual.ensures.1 in
    let so_far = c.loop.invariant.read name known start here in
    let stops = rw c.loop.invariant.stays.show at (c.in_err-end_line-in-Ok-eq0.ensures.taken name known start so_far.0 so_far.2) in
    rw (failed.1, failed.2)
    (lines_stopped g.B.Geometry.shape name known c.args.self.now.show (g.I.Source.remaining c.args.input.now) (g.I.Source.remaining c.read.new.self)
    start (g.O.Sink.contents c.end_line.new.self.output.now) so_far.0 c.in_err-end_line-in-Ok-eq0.field-0.0
    (consumed_all _ (g.I.Source.remaining c.loop.input) _ so_far.0 c.read.new.buffer _ so_far.1 c.in-Ok-eq0.field-0-test c.in-Ok-eq0.ensures.bytes.0) stops)

pub returns-in-Ok-eq0-clause-stays : goal.returns-in-Ok-eq0-clause-stays
returns-in-Ok-eq0-clause-stays g c = reading_on c.loop.invariant.stays c.in_ok-end_line-in-Ok-eq0.ensures.stays

pub returns-in-Ok-eq0-clause-answer : goal.returns-in-Ok-eq0-clause-answer
returns-in-Ok-eq0-clause-answer g c = λ name known start here.
    let room : 0 < length c.read.new.buffer = omega (arith, c.read.auto.buffer) in
    let so_far = c.loop.invariant.read name known start here in
    let ended = c.in_ok-end_line-in-Ok-eq0.ensures.taken name known start so_far.0 so_far.2 in (
      so_far.0,
      consumed_all _ (g.I.Source.remaining c.loop.input) _ so_far.0 c.read.new.buffer _ so_far.1 c.in-Ok-eq0.field-0-test c.in-Ok-eq0.ensures.bytes.0,
      c.in-Ok-eq0.ensures.bytes.1 c.in-Ok-eq0.field-0-test room,
      all_out g.B.Geometry.shape name known c.args.self.now.show (strings_in so_far.0) start (g.O.Sink.contents c.end_line.new.self.output.now) c.end_line.new.self.tally
          (rw (c.in_ok-end_line-in-Ok-eq0.ensures.stays.show, c.loop.invariant.stays.show) at ended.to.out),
    )

pub returns-in_err-take_bytes-in-Ok-clause-stays : goal.returns-in_err-take_bytes-in-Ok-clause-stays
returns-in_err-take_bytes-in-Ok-clause-stays g c = reading_on c.loop.invariant.stays c.in_err-take_bytes-in-Ok.ensures.stays

pub returns-in_err-take_bytes-in-Ok-clause-answer : goal.returns-in_err-take_bytes-in-Ok-clause-answer
returns-in_err-take_bytes-in-Ok-clause-answer g c = λ name known start here.
    let failed = err_from_is_err_and c.from_residual-in_err-take_bytes-in-Ok.result c.from_residual-in_err-take_bytes-in-Ok.ensures.1 in
    let so_far = c.loop.invariant.read name known start here in
    let stops = rw c.loop.invariant.stays.show at (c.in_err-take_bytes-in-Ok.ensures.taken name known start so_far.0 so_far.2) in
    rw (failed.1, failed.2)
    (lines_stopped g.B.Geometry.shape name known c.args.self.now.show (g.I.Source.remaining c.args.input.now) (g.I.Source.remaining c.read.new.self)
    start (g.O.Sink.contents c.take_bytes.new.self.output.now) (so_far.0 ++ take c.in-Ok.count c.read.new.buffer) c.in_err-take_bytes-in-Ok.field-0.0
    (Consumes-trans (g.I.Source.remaining c.args.input.now) (g.I.Source.remaining c.loop.input) (g.I.Source.remaining c.read.new.self) so_far.0 _ so_far.1 c.in-Ok.ensures.bytes.0)
    (stops_later g.B.Geometry.shape name known c.args.self.now.show (so_far.0 ++ take c.in-Ok.count c.read.new.buffer) (10 ∷ []) start
    (g.O.Sink.contents c.take_bytes.new.self.output.now) c.in_err-take_bytes-in-Ok.field-0.0 stops))

pub returns-in-Err-clause-answer : goal.returns-in-Err-clause-answer
returns-in-Err-clause-answer g c = λ name known start here.
    let so_far = c.loop.invariant.read name known start here in
    rw (← c.loop.invariant.stays.show)
    (lines_unread g.B.Geometry.shape name known c.loop.self.show (g.I.Source.remaining c.args.input.now) (g.I.Source.remaining c.loop.input) (g.I.Source.remaining c.read.new.self)
    start (g.O.Sink.contents c.loop.self.output.now) so_far.0 c.loop.self.line.items c.loop.self.tally so_far.1 c.in-Err.ensures.bytes so_far.2.to)

pub loop-preserved : goal.loop-preserved
loop-preserved g c =
    let bytes = take c.in-Ok.count c.read.new.buffer in
    record {
      stays = reading_on c.loop.invariant.stays c.in_ok-take_bytes-in-Ok.ensures.stays;
      unread = c.in-Ok.ensures.counted ∙ c.loop.invariant.unread;
      unfailed = c.in_ok-take_bytes-in-Ok.ensures.counted ∙ c.loop.invariant.unfailed;
      read = λ name known start here.
          let so_far = c.loop.invariant.read name known start here in (
            so_far.0 ++ bytes,
            Consumes-trans (g.I.Source.remaining c.args.input.now) (g.I.Source.remaining c.loop.input) (g.I.Source.remaining c.read.new.self) so_far.0 bytes so_far.1
                c.in-Ok.ensures.bytes.0,
            c.in_ok-take_bytes-in-Ok.ensures.taken name known start so_far.0 so_far.2,
            omega (
              arith,
              so_far.3,
              length-append so_far.0 bytes,
              length-take-le c.in-Ok.count c.read.new.buffer c.in-Ok.ensures.bound.0,
              c.in-Ok.count-test,
            ),
          );
    }

pub returns-clause-answer : goal.returns-clause-answer
returns-clause-answer g c = λ name known start here.
    let so_far = c.loop.invariant.read name known start here in
    rw (← c.loop.invariant.stays.show)
    (lines_unread g.B.Geometry.shape name known c.loop.self.show (g.I.Source.remaining c.args.input.now) (g.I.Source.remaining c.loop.input) (g.I.Source.remaining c.loop.input)
    start (g.O.Sink.contents c.loop.self.output.now) so_far.0 c.loop.self.line.items c.loop.self.tally so_far.1 (Keeps-refl _) so_far.2.to)

-- ---- the reads

pub returns-in_err-end_line-in-Ok-eq0-clause-reads : goal.returns-in_err-end_line-in-Ok-eq0-clause-reads
returns-in_err-end_line-in-Ok-eq0-clause-reads g c = λ name known start here.
    let failed = err_from_is_err_and c.from_residual.result c.from_residual.ensures.1 in
    let so_far = c.loop.invariant.read name known start here in
    rw (failed.1, failed.2)
    (stopped_reads g.B.Geometry.shape name known _ _ start _ (g.I.Source.remaining c.args.input.now) (g.I.Source.remaining c.read.new.self) c.in_err-end_line-in-Ok-eq0.field-0.0
    (c.in_err-end_line-in-Ok-eq0.ensures.taken name known start so_far.0 so_far.2) _ _ (c.in-Ok-eq0.ensures.counted ∙ c.loop.invariant.unread))

pub returns-in_err-take_bytes-in-Ok-clause-reads : goal.returns-in_err-take_bytes-in-Ok-clause-reads
returns-in_err-take_bytes-in-Ok-clause-reads g c = λ name known start here.
    let failed = err_from_is_err_and c.from_residual-in_err-take_bytes-in-Ok.result c.from_residual-in_err-take_bytes-in-Ok.ensures.1 in
    let so_far = c.loop.invariant.read name known start here in
    rw (failed.1, failed.2)
    (stopped_reads g.B.Geometry.shape name known _ _ start _ (g.I.Source.remaining c.args.input.now) (g.I.Source.remaining c.read.new.self) c.in_err-take_bytes-in-Ok.field-0.0
    (c.in_err-take_bytes-in-Ok.ensures.taken name known start so_far.0 so_far.2) _ _ (c.in-Ok.ensures.counted ∙ c.loop.invariant.unread))

pub returns-in-Err-clause-reads : goal.returns-in-Err-clause-reads
returns-in-Err-clause-reads g c = λ name known start here. inl (omega (arith, c.in-Err.ensures.counted, c.loop.invariant.unread))

pub returns-clause-reads : goal.returns-clause-reads
returns-clause-reads g c = λ name known start here.
    let so_far = c.loop.invariant.read name known start here in
    inr (so_far.0, so_far.1, omega (arith, so_far.3, c.loop-test.false, c.loop.auto.counter-end))
