-- The text counts the positions of the table's pair: its codes are known, and say the game's values.
use Rattle.std.proofs.Common.{Err, false, true, ap, inl, ◌∙◌}
use Rattle.std.proofs.KnownBytes.{Keeps-refl}
use Rattle.std.proofs.lemmas.Result.{err_from_is_err_and}
use Rattle.morris_jobs.proofs.CountedLaws.{answers_game}
use Rattle.morris_commands.proofs.stats.print_form.Goals as goal

-- nothing is printed where memory is refused
pub returns-in_err-entries-clause-answer : goal.returns-in_err-entries-clause-answer
returns-in_err-entries-clause-answer g c =
    let failed = err_from_is_err_and c.from_residual.result c.from_residual.ensures.1 in
    inl (failed.1 ∙ ap Err failed.2, Keeps-refl (g.S.Sink.contents c.args.output.now))

pub returns-in-Text-clause-answer : goal.returns-in-Text-clause-answer
returns-in-Text-clause-answer g c =
    rw c.in-Text.is
    (answers_game g.B.Geometry.shape c.args.table.now c.pair-pair.ensures.lawful _ (rw (c.layout.ensures, c.pair-pair.ensures.value) at c.in_ok-entries.ensures) false
    (g.S.Sink.contents c.args.output.now) (g.S.Sink.contents c.print_counts.new.output) c.print_counts.result c.print_counts.ensures.answer)

pub returns-in-Csv-clause-answer : goal.returns-in-Csv-clause-answer
returns-in-Csv-clause-answer g c =
    rw c.in-Csv.is
    (answers_game g.B.Geometry.shape c.args.table.now c.pair-pair.ensures.lawful _ (rw (c.layout.ensures, c.pair-pair.ensures.value) at c.in_ok-entries.ensures) true
    (g.S.Sink.contents c.args.output.now) (g.S.Sink.contents c.print_counts-in-Csv.new.output) c.print_counts-in-Csv.result c.print_counts-in-Csv.ensures.answer)
