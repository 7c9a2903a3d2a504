-- The folder of the pair of a name is filled, where the workers and blocks are in range.
use Rattle.std.proofs.Common.{subst}
use Rattle.std.proofs.lemmas.Result.{err_from_is_err_and}
use Rattle.morris_workers.specs.Ranges.{range_fault}
use Rattle.morris_jobs.proofs.OrderLaws.{answers_order}
use Rattle.morris_folder_commands.specs.Causes.{MayBeLong}
use Rattle.morris_folder_commands.specs.Into.{AnswersFolder, StaysPut, place_of}
use Rattle.morris_folder_commands.proofs.CauseLaws.{parallelism_caused, text_caused}
use Rattle.morris_folder_commands.proofs.into.into_on.Goals as goal

pub returns-clause-answer : goal.returns-clause-answer
returns-clause-answer g c =
    let board = g.B.Geometry.shape in
    let build_args = c.args.build_args in
    let pair = c.in_ok-pair.pair in
    let before = place_of (g.F.Folder.files c.args.folder.now) (g.O.Sink.contents c.args.output.now) in
    let after = place_of (g.F.Folder.files c.into_folder.new.folder) (g.O.Sink.contents c.into_folder.new.output) in
    let r = c.into_folder.result in
    let parallelism = c.in_ok-parallelism.ensures in
    answers_order board c.into_folder.ensures.points build_args.pair.now pair c.in_ok-pair.ensures r (StaysPut before after)
    (λ p. AnswersFolder board c.args.layout build_args.board.now p build_args.blocks before after r) build_args.workers build_args.blocks parallelism.2
    (subst (λ blocks. AnswersFolder board c.args.layout build_args.board.now pair blocks before after r) parallelism.1 c.into_folder.ensures.answer)

-- ---- refusals before the folder is touched

pub returns-in_err-pair-clause-caused : goal.returns-in_err-pair-clause-caused
returns-in_err-pair-clause-caused g c =
    let failed = err_from_is_err_and c.from_residual.result c.from_residual.ensures.1 in
    let old = g.F.Folder.failures c.args.folder.now in
    rw (failed.1, failed.2)
    (text_caused g.F.Reader.Source.failures g.F.Writer.Sink.failures (g.F.Folder.taken c.args.folder.now)
    (MayBeLong c.args.build_args.board.now (g.F.Folder.files c.args.folder.now)) old old g.B.Geometry.POINTS c.args.build_args.pair.now c.in_err-pair.field-0.0
    c.in_err-pair.ensures)

pub returns-in_err-parallelism-clause-caused : goal.returns-in_err-parallelism-clause-caused
returns-in_err-parallelism-clause-caused g c =
    let failed = err_from_is_err_and c.from_residual-in_err-parallelism.result c.from_residual-in_err-parallelism.ensures.1 in
    let old = g.F.Folder.failures c.args.folder.now in
    rw (failed.1, failed.2)
    (parallelism_caused g.F.Reader.Source.failures g.F.Writer.Sink.failures (g.F.Folder.taken c.args.folder.now)
    (MayBeLong c.args.build_args.board.now (g.F.Folder.files c.args.folder.now)) old old (range_fault c.args.build_args.workers c.args.build_args.blocks)
    c.in_err-parallelism.field-0.0 c.in_err-parallelism.ensures)
