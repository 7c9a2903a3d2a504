-- A table is built, and the file that waits is written and its line printed.
use Rattle.std.proofs.Common.{◌∷◌, Ok, Err, refl, sym, ◌∙◌}
use Rattle.std.proofs.lemmas.Result.{err_from_is_err_and}
use Rattle.morris_folder_commands.specs.Filling.{rest_of}
use Rattle.morris_folder_commands.specs.Into.{place_of}
use Rattle.morris_folder_commands.proofs.FillLaws.{built_alone, filed_once, goes_further}
use Rattle.morris_folder_commands.proofs.filling.build_beside.Goals as goal

pub returns-in_default-clause-filled : goal.returns-in_default-clause-filled
returns-in_default-clause-filled g c = λ pairs.
    let filling = c.args.filling.now in
    let old = c.args.filled.now in
    built_alone g.B.Geometry.shape filling.layout filling.board.now filling.context.parallelism.blocks old.waiting c.take.new.self old.written.items old.sent c.args.next
    pairs (place_of (g.F.Folder.files c.args.folder.now) (g.O.Sink.contents c.args.output.now)) c.build_over.result (sym c.take.ensures.value ∙ c.in_default.is) c.take.ensures.after
    c.build_over.ensures.refused

-- the file isn't begun
pub returns-in_err-part-clause-filled : goal.returns-in_err-part-clause-filled
returns-in_err-part-clause-filled g c = λ pairs.
    let failed = err_from_is_err_and c.from_residual.result c.from_residual.ensures.1 in
    let filling = c.args.filling.now in
    let old = c.args.filled.now in
    let refused = c.in_err-part.field-0.0 in
    rw (failed.1, failed.2)
    (filed_once g.B.Geometry.shape filling.layout filling.board.now filling.context.parallelism.blocks c.args.tables.now old.waiting c.take.new.self old.written.items
    old.written.items c.in-Some.waiting (c.args.next ∷ pairs) c.table_there-last.result.now old.sent old.sent
    (place_of (g.F.Folder.files c.args.folder.now) (g.O.Sink.contents c.args.output.now))
    (place_of (g.F.Folder.files c.begin_file.new.folder) (g.O.Sink.contents c.args.output.now)) (Err refused) (Err refused)
    c.requires.there (sym c.in-Some.ensures.value) c.table_there-last.ensures c.take.ensures.after c.in_err-part.ensures.unbegun (refl, refl))

-- it isn't written, or its line not printed
pub returns-in_err-print_line-clause-filled : goal.returns-in_err-print_line-clause-filled
returns-in_err-print_line-clause-filled g c = λ pairs.
    let failed = err_from_is_err_and c.from_residual-in_err-print_line.result c.from_residual-in_err-print_line.ensures.1 in
    let filling = c.args.filling.now in
    let old = c.args.filled.now in
    let new = c.print_line.new.self in
    let files = g.F.Folder.files c.args.folder.now in
    let begun = c.in_ok-part.ensures in
    let unchanged = c.end_file-file.ensures.unchanged filling.board.now files c.in_ok-part.part.part.writer begun.names begun.begun c.build_writing-written.ensures.whole in
    rw (failed.1, failed.2)
    (filed_once g.B.Geometry.shape filling.layout filling.board.now filling.context.parallelism.blocks c.args.tables.now old.waiting new.waiting old.written.items
    new.written.items c.in-Some.waiting (c.args.next ∷ pairs) c.table_there-last.result.now old.sent new.sent
    (place_of files (g.O.Sink.contents c.args.output.now))
    (place_of (g.F.Folder.files c.end_file-file.new.folder) (g.O.Sink.contents c.print_line.new.output)) c.end_file-file.result (Err c.in_err-print_line.field-0.0)
    c.requires.there (sym c.in-Some.ensures.value) c.table_there-last.ensures (c.print_line.ensures.waiting ∙ c.take.ensures.after) unchanged
    c.in_err-print_line.ensures.reported)

pub returns-clause-filled : goal.returns-clause-filled
returns-clause-filled g c = λ pairs.
    let filling = c.args.filling.now in
    let old = c.args.filled.now in
    let new = c.print_line.new.self in
    let files = g.F.Folder.files c.args.folder.now in
    let here = place_of files (g.O.Sink.contents c.args.output.now) in
    let next = place_of (g.F.Folder.files c.end_file-file.new.folder) (g.O.Sink.contents c.print_line.new.output) in
    let name = filling.board.now in
    let begun = c.in_ok-part.ensures in
    let unchanged = c.end_file-file.ensures.unchanged name files c.in_ok-part.part.part.writer begun.names begun.begun c.build_writing-written.ensures.whole in
    let none = c.print_line.ensures.waiting ∙ c.take.ensures.after in
    let more = c.args.next ∷ pairs in
    let rest = rest_of name new.written.items new.sent new.waiting more next in
    goes_further g.B.Geometry.shape filling.layout name filling.context.parallelism.blocks (rest_of name old.written.items old.sent old.waiting more here) rest rest
    c.build_writing-written.result.1
    (filed_once g.B.Geometry.shape filling.layout name filling.context.parallelism.blocks c.args.tables.now old.waiting new.waiting old.written.items new.written.items
    c.in-Some.waiting more c.table_there-last.result.now old.sent new.sent here next c.end_file-file.result (Ok c.in_ok-print_line.field-0)
    c.requires.there (sym c.in-Some.ensures.value) c.table_there-last.ensures none unchanged c.in_ok-print_line.ensures.reported)
    (built_alone g.B.Geometry.shape filling.layout name filling.context.parallelism.blocks new.waiting new.waiting new.written.items new.sent c.args.next pairs next
    c.build_writing-written.result.1 none none c.build_writing-written.ensures.unbuilt)
