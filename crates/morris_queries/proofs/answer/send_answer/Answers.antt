use Rattle.std.proofs.lemmas.Result.{err_from_is_err_and}
use Rattle.morris_queries.proofs.AnswerLaws.{went_in}
use Rattle.morris_queries.proofs.answer.send_answer.Goals as goal

pub returns-in_err-sent-clause-sent : goal.returns-in_err-sent-clause-sent
returns-in_err-sent-clause-sent g c =
    let failed = err_from_is_err_and c.from_residual.result c.from_residual.ensures.1 in
    rw (failed.1, failed.2) (went_in _ _ _ c.in_err-sent.field-0.0 c.in_err-sent.ensures.sent c.in_err-sent.ensures.few)
