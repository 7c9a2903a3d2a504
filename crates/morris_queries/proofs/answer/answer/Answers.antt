use Rattle.std.proofs.Common.{◌≤◌, sym, arith}
use Rattle.std.proofs.lemmas.Result.{err_from_is_err_and}
use Rattle.morris_queries.proofs.ExactLaws.{game_reported}
use Rattle.morris_queries.proofs.AnswerLaws.{answer_refused, answer_reported}
use Rattle.morris_queries.proofs.FolderLaws.{known_as, stays_here}
use Rattle.morris_queries.proofs.answer.answer.Goals as goal

pub returns-in_err-position-clause-stays : goal.returns-in_err-position-clause-stays
returns-in_err-position-clause-stays g c = stays_here

pub returns-in_err-position-clause-answer : goal.returns-in_err-position-clause-answer
returns-in_err-position-clause-answer g c = λ name known of.
    let failed = err_from_is_err_and c.from_residual.result c.from_residual.ensures.1 in
    rw (failed.1, failed.2)
    (answer_refused g.B.Geometry.shape name known c.args.show c.args.text.now c.in_err-position.field-0.0 (sym c.in_err-position.ensures.answer))

pub returns-clause-answer : goal.returns-clause-answer
returns-clause-answer g c = λ name known of.
    let few : g.B.Geometry.shape.points ≤ 24 = omega (arith, g.met.B.Geometry.point_count, g.met.B.Geometry.few) in
    answer_reported g.B.Geometry.shape name known c.args.show c.args.text.now c.in_ok-position.position c.report.result
    (sym c.in_ok-position.ensures.answer) c.report.ensures.listed
    (λ files is. c.report.ensures.reported name files (known_as is of))
    (λ files is exact. game_reported g.B.Geometry.shape few g.met.B.Geometry.has_symmetries name files c.args.show c.in_ok-position.position
    c.own.ensures.lawful exact c.report.result (c.report.ensures.reported name files (known_as is of)))
