-- A bundle is verified file by file.
use Rattle.std.proofs.Common.{◌≡◌, ◌-◌, ◌∙◌, Err, arith, inr, refl, subst, true}
use Rattle.std.proofs.lemmas.Result.{err_from_is_err_and}
use Rattle.morris_jobs.specs.declared.fault.Fault.TheVariants as fault
use Rattle.morris_jobs.specs.Bundles.{TakesBundle}
use Rattle.morris_jobs.specs.Inputs.{input_of}
use Rattle.morris_jobs.proofs.BundleLaws.{at_end, leads_on, leads_wrong, no_room_wanting, one_too_many, read_unwritten, refused_file}
use Rattle.morris_folder_commands.specs.Bundle.{TakesFile, reached}
use Rattle.morris_folder_commands.specs.From.{end_of}
use Rattle.morris_folder_commands.proofs.bundle.bundle_on.Goals as goal

pub loop-place-init : goal.loop-place-init
loop-place-init g c = record {
  leads = λ ending goes. goes;
  most = omega arith;
  few = omega arith;
  unfailed = refl;
  uncounted = refl;
  reported = g.met.T.Watch.stays c.args.progress.now;
}

pub read_next-requires : goal.read_next-requires
read_next-requires g c = omega (arith, c.requires.streams.0, c.loop-place.invariant.unfailed)

-- a file that is refused
pub returns-in_err-raw-clause-answer : goal.returns-in_err-raw-clause-answer
returns-in_err-raw-clause-answer g c =
    let failed = err_from_is_err_and c.from_residual-in_err-raw.result c.from_residual-in_err-raw.ensures.1 in
    let after = input_of (g.I.Source.remaining c.read_next.new.source) (g.I.Source.failures c.read_next.new.source) in
    let l = c.loop-place in
    let board = g.B.Geometry.shape in
    let here = reached l.tables l.found l.sent (g.O.Sink.contents l.output) in
    rw (failed.1, failed.2)
    (inr (
      c.in_ok-tables.tables,
      c.in_ok-tables.ensures.none,
      here,
      refl,
      l.invariant.leads _ (refused_file board (TakesFile board) (λ at. end_of at.some) (64 - l.place) here _ after c.in_err-raw.field-0.0
          (record { read = c.in_err-raw.ensures.outcome; counted = c.in_err-raw.ensures.counted; room = c.in_err-raw.ensures.memory; place = c.in_err-raw.ensures.place })),
    ))

pub returns-in_err-raw-clause-counted : goal.returns-in_err-raw-clause-counted
returns-in_err-raw-clause-counted g c =
    let failed = err_from_is_err_and c.from_residual-in_err-raw.result c.from_residual-in_err-raw.ensures.1 in
    rw (failed.1, failed.2) (rw (read_unwritten c.in_err-raw.field-0.0) c.loop-place.invariant.uncounted)

-- the end
pub returns-in_default-clause-answer : goal.returns-in_default-clause-answer
returns-in_default-clause-answer g c =
    let after = input_of (g.I.Source.remaining c.read_next.new.source) (g.I.Source.failures c.read_next.new.source) in
    let l = c.loop-place in
    let board = g.B.Geometry.shape in
    let here = reached l.tables l.found l.sent (g.O.Sink.contents l.output) in
    rw c.end_of.ensures
    (inr (
      c.in_ok-tables.tables,
      c.in_ok-tables.ensures.none,
      here,
      refl,
      l.invariant.leads _ (at_end board (TakesFile board) (λ at. end_of at.some) (64 - l.place) here _ after
          (record { read = rw c.in_default.is at c.in_ok-raw.ensures.outcome; counted = c.in_ok-raw.ensures.counted; room = no_room_wanting _; place = c.in_ok-raw.ensures.place })),
    ))

-- a file where no more are taken
pub returns-then-place-eq-MOST_FILES-clause-answer : goal.returns-then-place-eq-MOST_FILES-clause-answer
returns-then-place-eq-MOST_FILES-clause-answer g c =
    let after = input_of (g.I.Source.remaining c.read_next.new.source) (g.I.Source.failures c.read_next.new.source) in
    let l = c.loop-place in
    let board = g.B.Geometry.shape in
    let here = reached l.tables l.found l.sent (g.O.Sink.contents l.output) in
    let now = input_of (g.I.Source.remaining l.input) (g.I.Source.failures l.input) in
    let none : 0 ≡ 64 - l.place = omega (arith, c.if-place-eq-MOST_FILES.true) in
    inr (
      c.in_ok-tables.tables,
      c.in_ok-tables.ensures.none,
      here,
      refl,
      l.invariant.leads _ (subst (λ n. TakesBundle board (TakesFile board) (λ at. end_of at.some) n here now (Err fault.TooMany, here, after)) none
          (one_too_many board (TakesFile board) (λ at. end_of at.some) here now after c.in-Some.raw
          (record { read = rw c.in-Some.is at c.in_ok-raw.ensures.outcome; counted = c.in_ok-raw.ensures.counted; room = no_room_wanting _; place = c.in_ok-raw.ensures.place }))),
    )

-- a table that isn't taken in, or whose line isn't printed
pub returns-in_err-sent-clause-answer : goal.returns-in_err-sent-clause-answer
returns-in_err-sent-clause-answer g c =
    let failed = err_from_is_err_and c.from_residual-in_err-sent.result c.from_residual-in_err-sent.ensures.1 in
    let after = input_of (g.I.Source.remaining c.read_next.new.source) (g.I.Source.failures c.read_next.new.source) in
    let l = c.loop-place in
    let board = g.B.Geometry.shape in
    let here = reached l.tables l.found l.sent (g.O.Sink.contents l.output) in
    let out = g.O.Sink.contents c.take_in.new.output in
    let next = reached c.take_in.new.tables true 0 out in
    rw (failed.1, failed.2)
    (inr (
      c.in_ok-tables.tables,
      c.in_ok-tables.ensures.none,
      next,
      refl,
      leads_wrong board (TakesFile board) (λ at. end_of at.some) _ here next _ _ after c.in-Some.raw l.place
          (omega (arith, l.invariant.most, c.if-place-eq-MOST_FILES.false)) l.invariant.leads
          (record { read = rw c.in-Some.is at c.in_ok-raw.ensures.outcome; counted = c.in_ok-raw.ensures.counted; room = no_room_wanting _; place = c.in_ok-raw.ensures.place })
          _ (c.drop_unneeded.new.tables, rw c.pair-pair.ensures.value at (c.drop_unneeded.ensures.gone refl), refl, c.in_err-sent.ensures.taken),
    ))

-- one that is
pub loop-place-preserved : goal.loop-place-preserved
loop-place-preserved g c =
    let after = input_of (g.I.Source.remaining c.read_next.new.source) (g.I.Source.failures c.read_next.new.source) in
    let l = c.loop-place in
    let board = g.B.Geometry.shape in
    let here = reached l.tables l.found l.sent (g.O.Sink.contents l.output) in
    let out = g.O.Sink.contents c.take_in.new.output in
    record {
      leads =
          leads_on board (TakesFile board) (λ at. end_of at.some) _ here (reached c.take_in.new.tables true c.in_ok-sent.sent out) _ _ after c.in-Some.raw l.place
          (omega (arith, l.invariant.most, c.if-place-eq-MOST_FILES.false)) l.invariant.leads
          (record { read = rw c.in-Some.is at c.in_ok-raw.ensures.outcome; counted = c.in_ok-raw.ensures.counted; room = no_room_wanting _; place = c.in_ok-raw.ensures.place })
          (c.drop_unneeded.new.tables, rw c.pair-pair.ensures.value at (c.drop_unneeded.ensures.gone refl), refl, c.in_ok-sent.ensures.taken);
      most = omega (arith, l.invariant.most, c.if-place-eq-MOST_FILES.false);
      few = omega (arith, l.invariant.few, c.in_ok-sent.ensures.few);
      unfailed = c.in_ok-raw.ensures.counted ∙ l.invariant.unfailed;
      uncounted = c.in_ok-sent.ensures.counted ∙ l.invariant.uncounted;
      reported = g.met.T.Watch.joins _ _ _ (g.met.T.Watch.joins _ _ _ l.invariant.reported c.start_with_size.ensures.reported) c.take_in.ensures.reported;
    }
