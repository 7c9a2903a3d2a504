-- What is printed of the pair of a name, where the workers and blocks are in range.
use Rattle.std.proofs.Common.{Err, ap, subst, ◌∙◌, inl}
use Rattle.std.specs.Io.KnownBytes.{Keeps}
use Rattle.std.proofs.KnownBytes.{Keeps-refl}
use Rattle.std.proofs.lemmas.Result.{err_from_is_err_and}
use Rattle.morris_jobs.specs.Building.{IsUnbuiltAt}
use Rattle.morris_jobs.proofs.FaultLaws.{counted_refused, unwritten}
use Rattle.morris_workers.specs.Ranges.{range_fault}
use Rattle.morris_jobs.proofs.OrderLaws.{answers_order, unfit_unwritten, unread_unwritten}
use Rattle.morris_commands.specs.Build.{IsUnbuiltBefore}
use Rattle.morris_commands.specs.Stats.{AnswersCounts, AnswersPair}
use Rattle.morris_commands.proofs.OwnLaws.{answers_pair, none_too_deep, unbuilt_before, unbuilt_itself}
use Rattle.morris_commands.proofs.stats.by_classes_on.Goals as goal

-- what names no pair isn't refused as a write is, nor are workers or blocks out of range
pub returns-in_err-pair-clause-counted : goal.returns-in_err-pair-clause-counted
returns-in_err-pair-clause-counted g c =
    let failed = err_from_is_err_and c.from_residual.result c.from_residual.ensures.1 in
    counted_refused (g.S.Sink.failures c.args.output.now) c.from_residual.result _ (failed.1 ∙ ap Err failed.2) (unread_unwritten g.B.Geometry.POINTS c.args.build_args.pair.now _ c.in_err-pair.ensures)

pub returns-in_err-parallelism-clause-counted : goal.returns-in_err-parallelism-clause-counted
returns-in_err-parallelism-clause-counted g c =
    let failed = err_from_is_err_and c.from_residual-in_err-parallelism.result c.from_residual-in_err-parallelism.ensures.1 in
    counted_refused (g.S.Sink.failures c.args.output.now) c.from_residual-in_err-parallelism.result _ (failed.1 ∙ ap Err failed.2)
    (unfit_unwritten (range_fault c.args.build_args.workers c.args.build_args.blocks) _ c.in_err-parallelism.ensures)

pub returns-clause-answer : goal.returns-clause-answer
returns-clause-answer g c =
    let board = g.B.Geometry.shape in
    let build_args = c.args.build_args in
    let pair = c.in_ok-pair.pair in
    let old = g.S.Sink.contents c.args.output.now in
    let new = g.S.Sink.contents c.print_form.new.output in
    let r = c.print_form.result in
    answers_order board c.in_ok-tables.ensures.points build_args.pair.now pair c.in_ok-pair.ensures r (Keeps old new)
    (λ p. AnswersPair board p build_args.blocks c.args.form old new r) build_args.workers build_args.blocks c.in_ok-parallelism.ensures.2
    (answers_pair board pair build_args.blocks c.args.form old new r (none_too_deep board pair c.in_ok-tables.ensures.within c.in_ok-build_onto.ensures.within)
    (subst (λ d. AnswersCounts board d c.args.form old new r) c.in-Some.ensures.exact.0 c.print_form.ensures.answer))

-- nothing is printed where a pair isn't built: one below it, or the pair itself
pub returns-in_err-tables-clause-answer : goal.returns-in_err-tables-clause-answer
returns-in_err-tables-clause-answer g c =
    let board = g.B.Geometry.shape in
    let build_args = c.args.build_args in
    let old = g.S.Sink.contents c.args.output.now in
    let pair = c.in_ok-pair.pair in
    let r = c.from_residual-in_err-tables.result in
    let failed = err_from_is_err_and r c.from_residual-in_err-tables.ensures.1 in
    answers_order board c.in_err-tables.ensures.points build_args.pair.now pair c.in_ok-pair.ensures r (Keeps old old)
    (λ p. AnswersPair board p build_args.blocks c.args.form old old r) build_args.workers build_args.blocks c.in_ok-parallelism.ensures.2
    (inl (_, failed.1 ∙ ap Err failed.2, unbuilt_before board pair build_args.blocks _ (rw c.in_ok-parallelism.ensures.1 at c.in_err-tables.ensures.refused), Keeps-refl old))

pub returns-in_err-build_onto-clause-answer : goal.returns-in_err-build_onto-clause-answer
returns-in_err-build_onto-clause-answer g c =
    let board = g.B.Geometry.shape in
    let build_args = c.args.build_args in
    let old = g.S.Sink.contents c.args.output.now in
    let pair = c.in_ok-pair.pair in
    let r = c.from_residual-in_err-build_onto.result in
    let failed = err_from_is_err_and r c.from_residual-in_err-build_onto.ensures.1 in
    answers_order board c.in_ok-tables.ensures.points build_args.pair.now pair c.in_ok-pair.ensures r (Keeps old old)
    (λ p. AnswersPair board p build_args.blocks c.args.form old old r) build_args.workers build_args.blocks c.in_ok-parallelism.ensures.2
    (inl (
      _,
      failed.1 ∙ ap Err failed.2,
      unbuilt_itself board pair build_args.blocks c.in_ok-tables.ensures.last _ (rw c.in_ok-parallelism.ensures.1 at c.in_err-build_onto.ensures.refused),
      Keeps-refl old,
    ))

-- a refusal of a build isn't that of a write
pub returns-in_err-tables-clause-counted : goal.returns-in_err-tables-clause-counted
returns-in_err-tables-clause-counted g c =
    let r = c.from_residual-in_err-tables.result in
    let failed = err_from_is_err_and r c.from_residual-in_err-tables.ensures.1 in
    counted_refused (g.S.Sink.failures c.args.output.now) r _ (failed.1 ∙ ap Err failed.2)
    (unwritten (IsUnbuiltBefore g.B.Geometry.shape c.in_ok-pair.pair c.args.build_args.blocks) (λ sent none. none) _ (rw c.in_ok-parallelism.ensures.1 at c.in_err-tables.ensures.refused))

pub returns-in_err-build_onto-clause-counted : goal.returns-in_err-build_onto-clause-counted
returns-in_err-build_onto-clause-counted g c =
    let r = c.from_residual-in_err-build_onto.result in
    let failed = err_from_is_err_and r c.from_residual-in_err-build_onto.ensures.1 in
    counted_refused (g.S.Sink.failures c.args.output.now) r _ (failed.1 ∙ ap Err failed.2)
    (unwritten (IsUnbuiltAt g.B.Geometry.shape c.in_ok-pair.pair c.args.build_args.blocks) (λ sent none. none) _ (rw c.in_ok-parallelism.ensures.1 at c.in_err-build_onto.ensures.refused))

pub returns-clause-counted : goal.returns-clause-counted
returns-clause-counted g c = c.print_form.ensures.counted

pub returns-in_err-pair-clause-reported : goal.returns-in_err-pair-clause-reported
returns-in_err-pair-clause-reported g c = g.met.T.Watch.stays c.args.progress.now

pub returns-in_err-parallelism-clause-reported : goal.returns-in_err-parallelism-clause-reported
returns-in_err-parallelism-clause-reported g c = g.met.T.Watch.stays c.args.progress.now

pub returns-in_err-tables-clause-reported : goal.returns-in_err-tables-clause-reported
returns-in_err-tables-clause-reported g c = g.met.T.Watch.joins _ _ _ c.start.ensures.reported c.build_before.ensures.reported

pub returns-in_err-build_onto-clause-reported : goal.returns-in_err-build_onto-clause-reported
returns-in_err-build_onto-clause-reported g c = g.met.T.Watch.joins _ _ _ (g.met.T.Watch.joins _ _ _ c.start.ensures.reported c.build_before.ensures.reported) c.build_onto.ensures.reported

pub returns-clause-reported : goal.returns-clause-reported
returns-clause-reported g c = g.met.T.Watch.joins _ _ _ (g.met.T.Watch.joins _ _ _ c.start.ensures.reported c.build_before.ensures.reported) c.build_onto.ensures.reported
