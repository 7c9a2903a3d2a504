-- A list that isn't left has a cause.
use Rattle.std.proofs.Common.{Some, false}
use Rattle.morris_folder_commands.proofs.CauseLaws.{digests_caused}
use Rattle.morris_folder_commands.proofs.entering.leave_list.Goals as goal

pub returns-clause-caused : goal.returns-clause-caused
returns-clause-caused g c =
    let old = g.F.Folder.failures c.args.folder.now in
    let new = g.F.Folder.failures c.write_list.new.folder in
    rw c.step_fault.ensures
    (digests_caused g.F.Reader.Source.failures g.F.Writer.Sink.failures (Some false) ⊥ old new c.in-Err.fault c.in-Err.ensures.counted c.in-Err.ensures.unwritten)
