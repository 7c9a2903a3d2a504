-- A file that isn't begun has a cause.
use Rattle.std.proofs.Common.{Some, false}
use Rattle.morris_folder_commands.proofs.CauseLaws.{unwritten_caused}
use Rattle.morris_folder_commands.proofs.filling.begin_file.Goals as goal

pub returns-in-Err-clause-unbegun : goal.returns-in-Err-clause-unbegun
returns-in-Err-clause-unbegun g c = (c.in-Err.fault, c.write_fault.ensures, c.in-Err.ensures.refused)

pub returns-in-Err-clause-caused : goal.returns-in-Err-clause-caused
returns-in-Err-clause-caused g c =
    let old = g.F.Folder.failures c.args.folder.now in
    let new = g.F.Folder.failures c.begin_table_file.new.folder in
    rw c.write_fault.ensures
    (unwritten_caused g.F.Reader.Source.failures g.F.Writer.Sink.failures (Some false) ⊥ old new c.args.table.now.pair c.in-Err.fault c.in-Err.ensures.counted
    (λ e. absurd (c.in-Err.ensures.written e)))
