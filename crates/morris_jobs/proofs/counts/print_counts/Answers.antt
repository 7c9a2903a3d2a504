-- What is printed counts the positions of the pair, as lines of fields by the stones of the player
-- to move.
use Rattle.std.proofs.Common.{Err, inr, ap, ◌∙◌}
use Rattle.std.proofs.lemmas.Result.{err_from_is_err_and}
use Rattle.morris_jobs.proofs.CountedLaws.{both_some, refused_stated, some_map}
use Rattle.morris_jobs.proofs.counts.print_counts.Goals as goal

pub returns-then-csv-clause-answer : goal.returns-then-csv-clause-answer
returns-then-csv-clause-answer g c =
    let entries = c.args.entries.now in
    let halves = c.in_ok-halves.halves in
    let printed = rw c.in_ok-halves.ensures.pair at c.print.ensures.shown in
    rw c.if-csv.true
    (inr (inr (
      (halves.lesser.items, halves.greater.items, printed),
      both_some entries.stated _ _ _ (λ known lesser greater. (halves.lesser.items, halves.greater.items, lesser, greater, printed)) c.in_ok-halves.ensures.lesser
          c.in_ok-halves.ensures.greater,
    )))

pub returns-clause-answer : goal.returns-clause-answer
returns-clause-answer g c =
    let entries = c.args.entries.now in
    let tallied = c.in_ok-tallied.tallied in
    let printed = rw (c.in_ok-tallied.ensures.pair, ← g.met.B.Geometry.point_count) at c.print-2.ensures.shown in
    rw c.if-csv.false
    (inr (inr (
      (tallied.tallies.items, printed),
      some_map entries.stated _ _ (λ known counted. (tallied.tallies.items, counted, printed)) c.in_ok-tallied.ensures.counted,
    )))

-- nothing is printed where memory is refused, or where a code can't be read
pub returns-in_err-halves-clause-answer : goal.returns-in_err-halves-clause-answer
returns-in_err-halves-clause-answer g c =
    let failed = err_from_is_err_and c.from_residual.result c.from_residual.ensures.1 in
    refused_stated g.B.Geometry.shape c.args.entries.now c.args.csv (g.S.Sink.contents c.args.output.now) c.from_residual.result c.in_err-halves.field-0.0
    (failed.1 ∙ ap Err failed.2) c.in_err-halves.ensures.sure

pub returns-in_err-tallied-clause-answer : goal.returns-in_err-tallied-clause-answer
returns-in_err-tallied-clause-answer g c =
    let failed = err_from_is_err_and c.from_residual-in_err-tallied.result c.from_residual-in_err-tallied.ensures.1 in
    refused_stated g.B.Geometry.shape c.args.entries.now c.args.csv (g.S.Sink.contents c.args.output.now) c.from_residual-in_err-tallied.result
    c.in_err-tallied.field-0.0 (failed.1 ∙ ap Err failed.2) c.in_err-tallied.ensures.sure
