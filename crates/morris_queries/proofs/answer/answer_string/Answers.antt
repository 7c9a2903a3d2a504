use Rattle.std.proofs.Common.{Ok, Err}
use Rattle.morris_queries.proofs.answer.answer_string.Goals as goal

pub returns-in-Ok-clause-answer : goal.returns-in-Ok-clause-answer
returns-in-Ok-clause-answer g c = λ name known of. (Ok c.in-Ok.reported, c.in-Ok.ensures.answer name known of, c.send_answer.ensures.sent)

pub returns-in-Err-clause-answer : goal.returns-in-Err-clause-answer
returns-in-Err-clause-answer g c = λ name known of. (Err c.in-Err.fault, c.in-Err.ensures.answer name known of, rw (c.POINTS.ensures, ← g.met.B.Geometry.point_count) at c.send_answer-in-Err.ensures.sent)
