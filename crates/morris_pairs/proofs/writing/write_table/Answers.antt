-- The laws of files, at this table.
use Rattle.morris_pairs.proofs.FileLaws.{file_in-file_of, file_of-injective}
use Rattle.morris_pairs.proofs.writing.write_table.Goals as goal

pub returns-in-Ok-clause-read_back : goal.returns-in-Ok-clause-read_back
returns-in-Ok-clause-read_back g c = λ after. file_in-file_of g.B.Geometry.shape c.args.table.now after c.put_file.ensures.lawful c.put_file.ensures.few

pub returns-in-Ok-clause-alone : goal.returns-in-Ok-clause-alone
returns-in-Ok-clause-alone g c = λ other raw same. file_of-injective g.B.Geometry.shape other c.args.table.now raw c.put_file.ensures.lawful same

pub returns-in-Err-clause-read_back : goal.returns-in-Err-clause-read_back
returns-in-Err-clause-read_back g c = λ after. file_in-file_of g.B.Geometry.shape c.args.table.now after c.put_file.ensures.lawful c.put_file.ensures.few

pub returns-in-Err-clause-alone : goal.returns-in-Err-clause-alone
returns-in-Err-clause-alone g c = λ other raw same. file_of-injective g.B.Geometry.shape other c.args.table.now raw c.put_file.ensures.lawful same
