use Rattle.std.proofs.Common.{arith}
use Rattle.morris_pairs.proofs.FileLaws.{length-file_of}
use Rattle.morris_commands.proofs.build.file_length.Goals as goal

pub returns-clause-value : goal.returns-clause-value
returns-clause-value g c = omega (arith, c.len.ensures.value, length-file_of g.B.Geometry.shape c.args.table.now)
