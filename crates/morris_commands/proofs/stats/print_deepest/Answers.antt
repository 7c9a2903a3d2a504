-- The text counts the positions of the table's pair, and the lines show its deepest ones.
use Rattle.std.proofs.Common.{◌++◌, Err, sym, ap, subst, ◌∙◌, inl, inr}
use Rattle.std.proofs.KnownBytes.{Keeps-refl}
use Rattle.std.proofs.lemmas.Result.{err_from_is_err_and}
use Rattle.morris_jobs.specs.Counted.{stats_text}
use Rattle.morris_jobs.specs.Faults.{Prints}
use Rattle.morris_jobs.proofs.CountedLaws.{memory_alone, tallies_known}
use Rattle.morris_commands.specs.Deepest.{deepest_lines}
use Rattle.morris_commands.proofs.DeepestLaws.{shown}
use Rattle.morris_commands.proofs.stats.print_deepest.Goals as goal

pub returns-clause-answer : goal.returns-clause-answer
returns-clause-answer g c =
    let board = g.B.Geometry.shape in
    let table = c.args.table.now in
    let tallied = c.in_ok-tallied.tallied in
    let lines = deepest_lines board c.in_ok-deepest.deepest in
    inr (
      tallied.tallies.items,
      lines,
      tallies_known board table c.requires.exact c.args.entries.now c.requires.same tallied.tallies.items c.in_ok-tallied.ensures.counted,
      shown board table.pair c.in_ok-deepest.deepest c.in_ok-deepest.ensures,
      subst
          (λ n. Prints (g.S.Sink.contents c.args.output.now) (g.S.Sink.contents c.print.new.output) (stats_text n table.pair tallied.tallies.items ++ lines) c.print.result)
          (sym g.met.B.Geometry.point_count) (rw (c.in_ok-tallied.ensures.pair, c.requires.same) at c.print.ensures.shown),
    )

-- nothing is printed where memory is refused
pub returns-in_err-tallied-clause-answer : goal.returns-in_err-tallied-clause-answer
returns-in_err-tallied-clause-answer g c =
    let failed = err_from_is_err_and c.from_residual.result c.from_residual.ensures.1 in
    inl (failed.1 ∙ ap Err (failed.2 ∙ memory_alone c.args.entries.now c.args.table.now c.requires.same _ c.in_err-tallied.ensures.sure), Keeps-refl (g.S.Sink.contents c.args.output.now))

pub returns-in_err-deepest-clause-answer : goal.returns-in_err-deepest-clause-answer
returns-in_err-deepest-clause-answer g c =
    let failed = err_from_is_err_and c.from_residual-in_err-deepest.result c.from_residual-in_err-deepest.ensures.1 in
    inl (failed.1 ∙ ap Err failed.2, Keeps-refl (g.S.Sink.contents c.args.output.now))
