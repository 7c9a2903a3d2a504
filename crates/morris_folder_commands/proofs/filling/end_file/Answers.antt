-- What is printed of a file is that of its table, and its line is short.
use Rattle.std.proofs.Common.{Some, false, ◌≡◌, length, ap, ◌∙◌}
use Rattle.sha2.proofs.Facts256.{length-sha256}
use Rattle.morris_pairs.specs.TableFiles.{file_of}
use Rattle.morris_folder_commands.proofs.CauseLaws.{unwritten_caused}
use Rattle.morris_folder_commands.proofs.LineLaws.{filed_few}
use Rattle.morris_folder_commands.proofs.filling.end_file.Goals as goal

pub returns-in-Ok-clause-unchanged : goal.returns-in-Ok-clause-unchanged
returns-in-Ok-clause-unchanged g c = λ board files start names begun whole.
    let w = c.in-Ok.ensures in
    (w.answer board files start names begun whole, record { pair = w.pair; entries = w.entries; bytes = w.bytes; digest = w.digest })

pub returns-in-Ok-clause-short : goal.returns-in-Ok-clause-short
returns-in-Ok-clause-short g c =
    let w = c.in-Ok.written in
    let long : length w.digest ≡ 32 = ap length c.in-Ok.ensures.digest ∙ length-sha256 (file_of g.B.Geometry.shape c.args.table.now) in
    filed_few w.pair w.entries w.bytes w.digest long

-- A file that isn't ended has a cause.
pub returns-in-Err-clause-unchanged : goal.returns-in-Err-clause-unchanged
returns-in-Err-clause-unchanged g c = λ board files start names begun whole.
    (c.in-Err.fault, c.write_fault.ensures, c.in-Err.ensures.answer board files start names begun whole)

pub returns-in-Err-clause-caused : goal.returns-in-Err-clause-caused
returns-in-Err-clause-caused g c =
    let old = g.F.Folder.failures c.args.folder.now in
    let new = g.F.Folder.failures c.end_table_file.new.folder in
    rw c.write_fault.ensures
    (unwritten_caused g.F.Reader.Source.failures g.F.Writer.Sink.failures (Some false) ⊥ old new c.args.table.now.pair c.in-Err.fault c.in-Err.ensures.counted
    c.in-Err.ensures.unwritten)
