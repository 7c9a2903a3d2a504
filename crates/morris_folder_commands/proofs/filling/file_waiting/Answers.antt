-- The file that waits is written and its line printed.
use Rattle.std.proofs.Common.{◌∙◌, sym}
use Rattle.morris_folder_commands.specs.Into.{place_of}
use Rattle.morris_folder_commands.proofs.FillLaws.{filed_once}
use Rattle.morris_folder_commands.proofs.filling.file_waiting.Goals as goal

pub returns-clause-filled : goal.returns-clause-filled
returns-clause-filled g c = λ pairs.
    let filling = c.args.filling.now in
    let old = c.args.filled.now in
    let new = c.print_line.new.self in
    filed_once g.B.Geometry.shape filling.layout filling.board.now filling.context.parallelism.blocks c.args.tables.now old.waiting new.waiting old.written.items
    new.written.items c.in-Some.pair pairs c.table_there-table.result.now old.sent new.sent
    (place_of (g.F.Folder.files c.args.folder.now) (g.O.Sink.contents c.args.output.now))
    (place_of (g.F.Folder.files c.store_table-file.new.folder) (g.O.Sink.contents c.print_line.new.output)) c.store_table-file.result c.print_line.result
    c.requires.there (sym c.in-Some.ensures.value) c.table_there-table.ensures (c.print_line.ensures.waiting ∙ c.take.ensures.after) c.store_table-file.ensures.unchanged
    c.print_line.ensures.reported
