use Rattle.std.proofs.Common.{◌≡◌, ◌∙◌, Err, ap, refl, subst, sym}
use Rattle.std.proofs.lemmas.Result.{err_from_is_err_and}
use Rattle.morris_jobs.proofs.FaultLaws.{counted_refused}
use Rattle.morris_jobs.specs.declared.fault.Fault.TheVariants as fault
use Rattle.morris_queries.specs.Folders.{IsOf, library_of}
use Rattle.morris_queries.proofs.AskLaws.{unfound_unwritten}
use Rattle.morris_queries.proofs.file_questions.ask.Goals as goal

pub returns-clause-answer : goal.returns-clause-answer
returns-clause-answer g c =
    let known = g.L.Library.files c.args.library.now in
    c.ask_in.ensures.answer c.args.board.now known
    (subst (λ k. IsOf g.B.Geometry.shape g.L.Library.files c.args.board.now k c.new-folder.result) c.in_ok-find.ensures.unchanged
    (c.new-folder.ensures.of (c.in_ok-tables.ensures c.args.board.now (g.L.Library.files c.find.new.self))))

pub returns-clause-unchanged : goal.returns-clause-unchanged
returns-clause-unchanged g c =
    let here : c.library-1.given.0 ≡ library_of c.ask_in.new.folder = c.library-1.given.1 (sym (c.ask_in.ensures.stays.same ∙ c.new-folder.ensures.lent)) in
    ap g.L.Library.files here ∙ c.ask_in.ensures.stays.unchanged ∙ ap g.L.Library.files c.new-folder.ensures.library ∙ c.in_ok-find.ensures.unchanged

-- neither that the place isn't found nor want of memory is the fault of a write
pub returns-in_err-find-clause-counted : goal.returns-in_err-find-clause-counted
returns-in_err-find-clause-counted g c =
    let r = c.from_residual.result in
    let failed = err_from_is_err_and r c.from_residual.ensures.1 in
    counted_refused (g.O.Sink.failures c.args.output.now) r _ (failed.1 ∙ ap Err failed.2) (unfound_unwritten c.in_err-find.field-0.0)

pub returns-in_err-tables-clause-counted : goal.returns-in_err-tables-clause-counted
returns-in_err-tables-clause-counted g c =
    let r = c.from_residual-in_err-tables.result in
    let failed = err_from_is_err_and r c.from_residual-in_err-tables.ensures.1 in
    counted_refused (g.O.Sink.failures c.args.output.now) r fault.Memory (failed.1 ∙ ap Err failed.2) refl
