use Rattle.std.proofs.Common.{◌≡◌, ◌≤◌, ◌∙◌, Err, Some, ap, arith, inr, sym}
use Rattle.std.specs.Option.{option_copied}
use Rattle.std.proofs.lemmas.Result.{err_from_is_err_and}
use Rattle.morris_lookup.specs.FileSets.{file_for}
use Rattle.morris_jobs.proofs.FaultLaws.{counted_refused}
use Rattle.morris_queries.proofs.AskLaws.{file_refused}
use Rattle.morris_queries.proofs.GameLaws.{exact_answer}
use Rattle.morris_queries.proofs.file_questions.ask_in.Goals as goal

-- the file that is open is the one that the folder has for the pair
pub returns-clause-answer : goal.returns-clause-answer
returns-clause-answer g c = λ name known of.
    let after = c.in_ok-make_ready.ensures.stays.still name known of in
    let file = c.in-Some.file.now in
    let few : g.B.Geometry.shape.points ≤ 24 = omega (arith, g.met.B.Geometry.few, g.met.B.Geometry.point_count) in
    let here : file_for c.make_ready.new.self.tables.now c.args.pair ≡ Some file = sym c.get.ensures.value ∙ ap option_copied c.in-Some.is in
    inr (inr (inr (
      file,
      c.in-Some.ensures.right.0,
      (λ files is. after.opened files is c.args.pair file here),
      c.answer_from.ensures.answer,
      exact_answer g.B.Geometry.shape few g.met.B.Geometry.has_symmetries file c.in-Some.ensures.right.1 c.args.question (g.O.Sink.contents c.args.output.now)
          (g.O.Sink.contents c.answer_from.new.output) c.answer_from.result c.answer_from.ensures.answer,
    )))

-- nothing is printed where it isn't opened
pub returns-in_err-make_ready-clause-answer : goal.returns-in_err-make_ready-clause-answer
returns-in_err-make_ready-clause-answer g c = λ name known of.
    let failed = err_from_is_err_and c.from_residual.result c.from_residual.ensures.1 in
    file_refused g.B.Geometry.shape name known c.args.pair c.args.question (g.O.Sink.contents c.args.output.now) c.from_residual.result c.in_err-make_ready.field-0.0
    (failed.1 ∙ ap Err failed.2)
    (λ files is. c.in_err-make_ready.ensures.refused name files (rw is at of))

pub returns-in_err-make_ready-clause-counted : goal.returns-in_err-make_ready-clause-counted
returns-in_err-make_ready-clause-counted g c =
    let failed = err_from_is_err_and c.from_residual.result c.from_residual.ensures.1 in
    counted_refused (g.O.Sink.failures c.args.output.now) c.from_residual.result c.in_err-make_ready.field-0.0 (failed.1 ∙ ap Err failed.2) c.in_err-make_ready.ensures.unwritten
