-- What is printed of the pair that the text names.
use Rattle.std.proofs.Common.{Err, ap, subst, ◌∙◌, inl}
use Rattle.std.specs.Io.KnownBytes.{Keeps}
use Rattle.std.proofs.KnownBytes.{Keeps-refl}
use Rattle.std.proofs.lemmas.Result.{err_from_is_err_and}
use Rattle.morris_jobs.specs.Building.{IsUnbuiltAt}
use Rattle.morris_jobs.proofs.FaultLaws.{counted_refused, unwritten}
use Rattle.morris_jobs.proofs.OrderLaws.{answers_read, unread_unwritten}
use Rattle.morris_commands.specs.Build.{IsUnbuiltBefore}
use Rattle.morris_commands.specs.Stats.{AnswersCounts, AnswersPair}
use Rattle.morris_commands.proofs.OwnLaws.{answers_pair, none_too_deep, unbuilt_before, unbuilt_itself}
use Rattle.morris_commands.proofs.stats.stats_on.Goals as goal

-- a text that names no pair isn't refused as a write is
pub returns-in_err-pair-clause-counted : goal.returns-in_err-pair-clause-counted
returns-in_err-pair-clause-counted g c =
    let failed = err_from_is_err_and c.from_residual.result c.from_residual.ensures.1 in
    counted_refused (g.S.Sink.failures c.args.output.now) c.from_residual.result _ (failed.1 ∙ ap Err failed.2) (unread_unwritten g.B.Geometry.POINTS c.args.text.now _ c.in_err-pair.ensures)

pub returns-clause-answer : goal.returns-clause-answer
returns-clause-answer g c =
    let board = g.B.Geometry.shape in
    let pair = c.in_ok-pair.pair in
    let old = g.S.Sink.contents c.args.output.now in
    let new = g.S.Sink.contents c.print_form.new.output in
    let r = c.print_form.result in
    answers_read board c.in_ok-shelf.ensures.points c.args.text.now pair c.in_ok-pair.ensures r (Keeps old new)
    (λ p. AnswersPair board p 0 c.args.form old new r)
    (answers_pair board pair 0 c.args.form old new r (none_too_deep board pair c.in_ok-shelf.ensures.within c.in_ok-sweep_onto.ensures.within)
    (subst (λ d. AnswersCounts board d c.args.form old new r) c.in-Some.ensures.exact.0 c.print_form.ensures.answer))

-- nothing is printed where a pair isn't swept: one below it, or the pair itself
pub returns-in_err-shelf-clause-answer : goal.returns-in_err-shelf-clause-answer
returns-in_err-shelf-clause-answer g c =
    let board = g.B.Geometry.shape in
    let pair = c.in_ok-pair.pair in
    let old = g.S.Sink.contents c.args.output.now in
    let r = c.from_residual-in_err-shelf.result in
    let failed = err_from_is_err_and r c.from_residual-in_err-shelf.ensures.1 in
    answers_read board c.in_err-shelf.ensures.points c.args.text.now pair c.in_ok-pair.ensures r (Keeps old old)
    (λ p. AnswersPair board p 0 c.args.form old old r)
    (inl (_, failed.1 ∙ ap Err failed.2, unbuilt_before board pair 0 _ c.in_err-shelf.ensures.refused, Keeps-refl old))

pub returns-in_err-sweep_onto-clause-answer : goal.returns-in_err-sweep_onto-clause-answer
returns-in_err-sweep_onto-clause-answer g c =
    let board = g.B.Geometry.shape in
    let pair = c.in_ok-pair.pair in
    let old = g.S.Sink.contents c.args.output.now in
    let r = c.from_residual-in_err-sweep_onto.result in
    let failed = err_from_is_err_and r c.from_residual-in_err-sweep_onto.ensures.1 in
    answers_read board c.in_ok-shelf.ensures.points c.args.text.now pair c.in_ok-pair.ensures r (Keeps old old)
    (λ p. AnswersPair board p 0 c.args.form old old r)
    (inl (_, failed.1 ∙ ap Err failed.2, unbuilt_itself board pair 0 c.in_ok-shelf.ensures.last _ c.in_err-sweep_onto.ensures.refused, Keeps-refl old))

-- a refusal of a sweep isn't that of a write
pub returns-in_err-shelf-clause-counted : goal.returns-in_err-shelf-clause-counted
returns-in_err-shelf-clause-counted g c =
    let r = c.from_residual-in_err-shelf.result in
    let failed = err_from_is_err_and r c.from_residual-in_err-shelf.ensures.1 in
    counted_refused (g.S.Sink.failures c.args.output.now) r _ (failed.1 ∙ ap Err failed.2)
    (unwritten (IsUnbuiltBefore g.B.Geometry.shape c.in_ok-pair.pair 0) (λ sent none. none) _ c.in_err-shelf.ensures.refused)

pub returns-in_err-sweep_onto-clause-counted : goal.returns-in_err-sweep_onto-clause-counted
returns-in_err-sweep_onto-clause-counted g c =
    let r = c.from_residual-in_err-sweep_onto.result in
    let failed = err_from_is_err_and r c.from_residual-in_err-sweep_onto.ensures.1 in
    counted_refused (g.S.Sink.failures c.args.output.now) r _ (failed.1 ∙ ap Err failed.2)
    (unwritten (IsUnbuiltAt g.B.Geometry.shape c.in_ok-pair.pair 0) (λ sent none. none) _ c.in_err-sweep_onto.ensures.refused)

pub returns-clause-counted : goal.returns-clause-counted
returns-clause-counted g c = c.print_form.ensures.counted

pub returns-in_err-pair-clause-reported : goal.returns-in_err-pair-clause-reported
returns-in_err-pair-clause-reported g c = g.met.T.Watch.stays c.args.progress.now

pub returns-in_err-shelf-clause-reported : goal.returns-in_err-shelf-clause-reported
returns-in_err-shelf-clause-reported g c = g.met.T.Watch.joins _ _ _ c.start.ensures.reported c.sweep_before.ensures.reported

pub returns-in_err-sweep_onto-clause-reported : goal.returns-in_err-sweep_onto-clause-reported
returns-in_err-sweep_onto-clause-reported g c =
    g.met.T.Watch.joins _ _ _ (g.met.T.Watch.joins _ _ _ c.start.ensures.reported c.sweep_before.ensures.reported) c.sweep_onto.ensures.reported

pub returns-clause-reported : goal.returns-clause-reported
returns-clause-reported g c =
    g.met.T.Watch.joins _ _ _ (g.met.T.Watch.joins _ _ _ c.start.ensures.reported c.sweep_before.ensures.reported) c.sweep_onto.ensures.reported
