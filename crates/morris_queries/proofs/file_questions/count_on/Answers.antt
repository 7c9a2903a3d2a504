-- What is printed of the pair of a name.
use Rattle.std.proofs.Common.{Err, ap, ◌∙◌}
use Rattle.std.specs.Io.KnownBytes.{Keeps}
use Rattle.std.proofs.lemmas.Result.{err_from_is_err_and}
use Rattle.morris_jobs.proofs.FaultLaws.{counted_refused}
use Rattle.morris_jobs.proofs.OrderLaws.{answers_read, unread_unwritten}
use Rattle.morris_queries.specs.declared.file_questions.Question.TheVariants.{Counts as Counting}
use Rattle.morris_queries.specs.Asked.{AnswersFrom}
use Rattle.morris_queries.proofs.file_questions.count_on.Goals as goal

pub returns-clause-answer : goal.returns-clause-answer
returns-clause-answer g c =
    let board = g.B.Geometry.shape in
    let old = g.O.Sink.contents c.args.output.now in
    let new = g.O.Sink.contents c.ask.new.output in
    answers_read board g.met.B.Geometry.point_count c.args.pair.now c.in_ok-pair.pair c.in_ok-pair.ensures c.ask.result (Keeps old new)
    (λ p. AnswersFrom board c.args.board.now (g.L.Library.files c.args.library.now) p (Counting c.args.csv) old new c.ask.result) c.ask.ensures.answer

-- a text that names no pair isn't refused as a write is
pub returns-in_err-pair-clause-counted : goal.returns-in_err-pair-clause-counted
returns-in_err-pair-clause-counted g c =
    let failed = err_from_is_err_and c.from_residual.result c.from_residual.ensures.1 in
    counted_refused (g.O.Sink.failures c.args.output.now) c.from_residual.result _ (failed.1 ∙ ap Err failed.2) (unread_unwritten g.B.Geometry.POINTS c.args.pair.now _ c.in_err-pair.ensures)
