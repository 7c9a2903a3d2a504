-- A list that isn't read, or isn't left, has a cause.
use Rattle.std.proofs.Common.{◌≡◌, ◌<◌, Err, Some, false, ap, arith}
use Rattle.morris_files.specs.declared.old_checksums.ListFault.TheVariants.{Unopened}
use Rattle.morris_folder_commands.specs.Causes.{MayBeLong}
use Rattle.morris_folder_commands.proofs.CauseLaws.{caused_on, unlisted_caused}
use Rattle.morris_folder_commands.proofs.entering.begin_list.Goals as goal

pub returns-in-Err-clause-caused : goal.returns-in-Err-clause-caused
returns-in-Err-clause-caused g c =
    let old = g.F.Folder.failures c.args.folder.now in
    let new = g.F.Folder.failures c.retained_lines.new.folder in
    let refused = c.in-Err.refused in
    let risen : refused ≡ Unopened → old < new = λ e. omega (arith, rw e at c.in-Err.ensures.counted) in
    rw c.list_fault.ensures
    (unlisted_caused g.F.Reader.Source.failures g.F.Writer.Sink.failures (Some false) old new c.args.board.now (g.F.Folder.files c.args.folder.now) refused
    c.in-Err.ensures.answer risen (λ e. c.in-Err.ensures.unread (ap (λ f. Err f) e)))

pub returns-in-Err-leave_list-clause-caused : goal.returns-in-Err-leave_list-clause-caused
returns-in-Err-leave_list-clause-caused g c =
    let old = g.F.Folder.failures c.args.folder.now in
    let mid = g.F.Folder.failures c.retained_lines.new.folder in
    let same : mid ≡ old = omega (arith, c.in-Ok.ensures.counted) in
    caused_on g.F.Reader.Source.failures g.F.Writer.Sink.failures (Some false) (Some false) ⊥ (MayBeLong c.args.board.now (g.F.Folder.files c.args.folder.now))
    old mid (g.F.Folder.failures c.leave_list.new.folder) same (λ h. h) (λ h. absurd h) c.in-Err-leave_list.refused c.in-Err-leave_list.ensures.caused
