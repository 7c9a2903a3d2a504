-- A file is begun, written and ended.
use Rattle.std.proofs.Common.{Some, false}
use Rattle.morris_folder_commands.proofs.CauseLaws.{cause_on}
use Rattle.morris_folder_commands.proofs.filling.store_table.Goals as goal

pub returns-clause-unchanged : goal.returns-clause-unchanged
returns-clause-unchanged g c =
    c.end_file.ensures.unchanged c.args.board.now (g.F.Folder.files c.args.folder.now) c.in_ok-part.part.part.writer c.in_ok-part.ensures.names c.in_ok-part.ensures.begun
    c.write_to-written.ensures.whole

pub returns-clause-caused : goal.returns-clause-caused
returns-clause-caused g c =
    cause_on g.F.Reader.Source.failures g.F.Writer.Sink.failures (Some false) (Some false) ⊥ ⊥ (g.F.Folder.failures c.args.folder.now)
    (g.F.Folder.failures c.begin_file.new.folder) (g.F.Folder.failures c.end_file.new.folder) c.in_ok-part.ensures.caused (λ h. h) (λ h. h)
    c.end_file.result c.end_file.ensures.caused
