-- What is printed of the pair and the value of two names.
use Rattle.std.proofs.Common.{◌∙◌, Err, Ok, ap, refl}
use Rattle.std.specs.Prelude.{Result}
use Rattle.std.specs.Io.KnownBytes.{Keeps}
use Rattle.std.proofs.KnownBytes.{Keeps-refl}
use Rattle.std.proofs.lemmas.Result.{err_from_is_err_and}
use Rattle.morris_jobs.specs.Answering.{OnRead}
use Rattle.morris_jobs.specs.declared.fault.Fault.{Fault}
use Rattle.morris_jobs.proofs.FaultLaws.{counted_refused}
use Rattle.morris_jobs.proofs.OrderLaws.{answers_read, unread_unwritten}
use Rattle.morris_queries.specs.declared.file_questions.Question.TheVariants.{Positions}
use Rattle.morris_queries.specs.declared.wanted.Wanted.{Wanted}
use Rattle.morris_queries.specs.Asked.{AnswersFrom}
use Rattle.morris_queries.specs.Wanted.{ReadsWanted}
use Rattle.morris_queries.proofs.file_questions.find_on.Goals as goal

pub returns-clause-answer : goal.returns-clause-answer
returns-clause-answer g c =
    let board = g.B.Geometry.shape in
    let old = g.O.Sink.contents c.args.output.now in
    let new = g.O.Sink.contents c.ask.new.output in
    let r = c.ask.result in
    answers_read board g.met.B.Geometry.point_count c.args.pair.now c.in_ok-pair.pair c.in_ok-pair.ensures r (Keeps old new)
    (λ p. (wanted : Result Wanted Fault) × ReadsWanted c.args.value.now wanted × OnRead (λ refused. refused) wanted r (Keeps old new) (λ found.
    AnswersFrom board c.args.board.now (g.L.Library.files c.args.library.now) p
    (Positions (record { wanted = found; all = c.args.all; shown = c.args.shown })) old new r))
    (Ok c.in_ok-wanted.wanted, c.in_ok-wanted.ensures, c.ask.ensures.answer)

-- no value has this name
pub returns-in_err-wanted-clause-answer : goal.returns-in_err-wanted-clause-answer
returns-in_err-wanted-clause-answer g c =
    let board = g.B.Geometry.shape in
    let old = g.O.Sink.contents c.args.output.now in
    let r = c.from_residual-in_err-wanted.result in
    let failed = err_from_is_err_and r c.from_residual-in_err-wanted.ensures.1 in
    answers_read board g.met.B.Geometry.point_count c.args.pair.now c.in_ok-pair.pair c.in_ok-pair.ensures r (Keeps old old)
    (λ p. (wanted : Result Wanted Fault) × ReadsWanted c.args.value.now wanted × OnRead (λ refused. refused) wanted r (Keeps old old) (λ found.
    AnswersFrom board c.args.board.now (g.L.Library.files c.args.library.now) p
    (Positions (record { wanted = found; all = c.args.all; shown = c.args.shown })) old old r))
    (Err c.in_err-wanted.field-0.0, c.in_err-wanted.ensures, (failed.1 ∙ ap Err failed.2, Keeps-refl old))

-- a name of no pair isn't refused as a write is, and neither is one of no value
pub returns-in_err-pair-clause-counted : goal.returns-in_err-pair-clause-counted
returns-in_err-pair-clause-counted g c =
    let failed = err_from_is_err_and c.from_residual.result c.from_residual.ensures.1 in
    counted_refused (g.O.Sink.failures c.args.output.now) c.from_residual.result _ (failed.1 ∙ ap Err failed.2) (unread_unwritten g.B.Geometry.POINTS c.args.pair.now _ c.in_err-pair.ensures)

pub returns-in_err-wanted-clause-counted : goal.returns-in_err-wanted-clause-counted
returns-in_err-wanted-clause-counted g c =
    let r = c.from_residual-in_err-wanted.result in
    let failed = err_from_is_err_and r c.from_residual-in_err-wanted.ensures.1 in
    counted_refused (g.O.Sink.failures c.args.output.now) r c.in_err-wanted.field-0.0 (failed.1 ∙ ap Err failed.2) (rw c.in_err-wanted.ensures.0 refl)
