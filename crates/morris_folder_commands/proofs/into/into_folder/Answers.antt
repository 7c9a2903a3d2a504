-- The folder is entered, its list begun, and then filled.
use Rattle.std.proofs.Common.{Err, Some, false, refl, ap, ◌∙◌, inl, inr, subst}
use Rattle.std.proofs.KnownBytes.{Keeps-refl}
use Rattle.std.proofs.lemmas.Result.{err_from_is_err_and}
use Rattle.morris_folder_commands.specs.Causes.{MayBeLong}
use Rattle.morris_folder_commands.specs.Into.{FillsFolder, place_of}
use Rattle.morris_folder_commands.proofs.CauseLaws.{cause_on, caused_on, long_before, nobody}
use Rattle.morris_folder_commands.proofs.into.into_folder.Goals as goal

pub returns-clause-answer : goal.returns-clause-answer
returns-clause-answer g c =
    let filling = c.args.filling.now in
    let out = g.O.Sink.contents c.args.output.now in
    let begun = place_of (g.F.Folder.files c.begin_list.new.folder) out in
    let after = place_of (g.F.Folder.files c.fill_locked.new.folder) (g.O.Sink.contents c.fill_locked.new.output) in
    let filled = subst (λ lines. FillsFolder g.B.Geometry.shape filling.layout filling.board.now filling.pair filling.context.parallelism.blocks lines begun after c.fill_locked.result)
    c.as_slice.ensures.value c.fill_locked.ensures.filled in
    inr (
      place_of (g.F.Folder.files c.enter.new.folder) out,
      c.in_ok-enter.ensures.entered,
      Keeps-refl out,
      inr (c.in_ok-unchanged.unchanged.items, begun, c.in_ok-unchanged.ensures.begun, Keeps-refl out, filled),
    )

-- the list of digests isn't begun
pub returns-in_err-unchanged-clause-answer : goal.returns-in_err-unchanged-clause-answer
returns-in_err-unchanged-clause-answer g c =
    let out = g.O.Sink.contents c.args.output.now in
    let failed = err_from_is_err_and c.from_residual-in_err-unchanged.result c.from_residual-in_err-unchanged.ensures.1 in
    inr (
      place_of (g.F.Folder.files c.enter.new.folder) out,
      c.in_ok-enter.ensures.entered,
      Keeps-refl out,
      inl (_, failed.1 ∙ ap Err failed.2, c.in_err-unchanged.ensures.begun, Keeps-refl out),
    )

-- ---- what a refusal has for a cause

-- the folder isn't entered
pub returns-in_err-enter-clause-caused : goal.returns-in_err-enter-clause-caused
returns-in_err-enter-clause-caused g c =
    let failed = err_from_is_err_and c.from_residual.result c.from_residual.ensures.1 in
    let taken = g.F.Folder.taken c.args.folder.now in
    let old = g.F.Folder.failures c.args.folder.now in
    rw (failed.1, failed.2)
    (caused_on g.F.Reader.Source.failures g.F.Writer.Sink.failures taken taken ⊥ (MayBeLong c.args.filling.now.board.now (g.F.Folder.files c.args.folder.now))
    old old (g.F.Folder.failures c.enter.new.folder) refl (λ h. h) (λ h. absurd h) c.in_err-enter.field-0.0 c.in_err-enter.ensures.caused)

-- the list of digests isn't begun
pub returns-in_err-unchanged-clause-caused : goal.returns-in_err-unchanged-clause-caused
returns-in_err-unchanged-clause-caused g c =
    let failed = err_from_is_err_and c.from_residual-in_err-unchanged.result c.from_residual-in_err-unchanged.ensures.1 in
    let name = c.args.filling.now.board.now in
    let taken = g.F.Folder.taken c.args.folder.now in
    let files = g.F.Folder.files c.args.folder.now in
    let entered = g.F.Folder.files c.enter.new.folder in
    rw (failed.1, failed.2)
    (caused_on g.F.Reader.Source.failures g.F.Writer.Sink.failures (Some false) taken (MayBeLong name entered) (MayBeLong name files)
    (g.F.Folder.failures c.args.folder.now) (g.F.Folder.failures c.enter.new.folder) (g.F.Folder.failures c.begin_list.new.folder)
    c.in_ok-enter.ensures.caused (nobody taken) (long_before name files entered c.in_ok-enter.ensures.entered) c.in_err-unchanged.field-0.0
    c.in_err-unchanged.ensures.caused)

pub returns-clause-caused : goal.returns-clause-caused
returns-clause-caused g c =
    let taken = g.F.Folder.taken c.args.folder.now in
    cause_on g.F.Reader.Source.failures g.F.Writer.Sink.failures (Some false) taken ⊥
    (MayBeLong c.args.filling.now.board.now (g.F.Folder.files c.args.folder.now)) (g.F.Folder.failures c.args.folder.now)
    (g.F.Folder.failures c.begin_list.new.folder) (g.F.Folder.failures c.fill_locked.new.folder)
    (c.in_ok-unchanged.ensures.caused ∙ c.in_ok-enter.ensures.caused) (nobody taken) (λ h. absurd h) c.fill_locked.result c.fill_locked.ensures.caused
