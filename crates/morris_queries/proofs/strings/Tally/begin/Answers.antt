use Rattle.std.proofs.lemmas.Result.{err_from_is_err_and}
use Rattle.morris_queries.proofs.AnswerLaws.{went_in}
use Rattle.morris_queries.proofs.strings.Tally.begin.Goals as goal

pub returns-in_err-sent-clause-begun : goal.returns-in_err-sent-clause-begun
returns-in_err-sent-clause-begun g c =
    let failed = err_from_is_err_and c.from_residual.result c.from_residual.ensures.1 in
    rw (failed.1, failed.2)
    (went_in _ _ _ c.in_err-sent.field-0.0 (rw c.head_text.ensures at c.in_err-sent.ensures.sent) (rw c.head_text.ensures at c.in_err-sent.ensures.few))
