use Rattle.std.proofs.Common.{◌≡◌, ◌∙◌, Err, ap, refl, subst}
use Rattle.std.proofs.lemmas.Result.{err_from_is_err_and}
use Rattle.morris_pairs.specs.Counting.{CodedEntries}
use Rattle.morris_jobs.specs.Counted.{AnswersStated}
use Rattle.morris_queries.specs.Asked.{entries_in}
use Rattle.morris_queries.specs.Found.{AnswersFind}
use Rattle.morris_queries.proofs.AskLaws.{memory_answer}
use Rattle.morris_queries.proofs.file_questions.answer_from.Goals as goal

-- there is no room for a chunk of the file, or for the classes
pub returns-in_err-codes-clause-answer : goal.returns-in_err-codes-clause-answer
returns-in_err-codes-clause-answer g c =
    let failed = err_from_is_err_and c.from_residual.result c.from_residual.ensures.1 in
    memory_answer g.B.Geometry.shape c.args.file.now c.args.question (g.O.Sink.contents c.args.output.now) c.from_residual.result (failed.1 ∙ ap Err failed.2)

pub returns-in_err-entries-clause-answer : goal.returns-in_err-entries-clause-answer
returns-in_err-entries-clause-answer g c =
    let r = c.from_residual-in_err-entries.result in
    let failed = err_from_is_err_and r c.from_residual-in_err-entries.ensures.1 in
    memory_answer g.B.Geometry.shape c.args.file.now c.args.question (g.O.Sink.contents c.args.output.now) r (failed.1 ∙ ap Err failed.2)

-- the entries are those of the file
pub returns-in-Counts-clause-answer : goal.returns-in-Counts-clause-answer
returns-in-Counts-clause-answer g c =
    let board = g.B.Geometry.shape in
    let same : c.in_ok-entries.entries ≡ entries_in board c.args.file.now =
    rw (c.in_ok-entries.ensures, c.layout.ensures, c.pair.ensures.value, c.in_ok-codes.ensures) refl in
    rw c.in-Counts.is
    (subst (λ (e : CodedEntries). AnswersStated board e c.in-Counts.csv (g.O.Sink.contents c.args.output.now) (g.O.Sink.contents c.print_counts.new.output) c.print_counts.result)
    same c.print_counts.ensures.answer)

pub returns-clause-answer : goal.returns-clause-answer
returns-clause-answer g c =
    let board = g.B.Geometry.shape in
    let search = c.in-Positions.search in
    let same : c.in_ok-entries.entries ≡ entries_in board c.args.file.now =
    rw (c.in_ok-entries.ensures, c.layout.ensures, c.pair.ensures.value, c.in_ok-codes.ensures) refl in
    rw c.in-Positions.is
    (subst (λ (e : CodedEntries). AnswersFind board e search.all search.wanted search.shown (g.O.Sink.contents c.args.output.now) (g.O.Sink.contents c.find.new.output) c.find.result)
    same c.find.ensures.answer)
