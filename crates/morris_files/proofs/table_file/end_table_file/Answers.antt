use Rattle.std.proofs.Common.{sym, ap, ◌∙◌, arith}
use Rattle.morris_pairs.proofs.FileLaws.{length-file_of}
use Rattle.morris_files.specs.Whole.{part_of}
use Rattle.morris_files.proofs.table_file.end_table_file.Goals as goal

pub end_part-requires-clause-name : goal.end_part-requires-clause-name
end_part-requires-clause-name g c = c.requires.paired ∙ ap part_of (sym c.as_str.ensures.value)

pub returns-clause-bytes : goal.returns-clause-bytes
returns-clause-bytes g c = omega (arith, c.len-entries.ensures.value, length-file_of g.B.Geometry.shape c.args.table.now)
