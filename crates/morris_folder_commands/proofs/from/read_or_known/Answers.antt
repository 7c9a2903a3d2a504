-- What is known, or what is answered of the folder as it is.
use Rattle.morris_files.specs.Names.{name_of}
use Rattle.morris_folder_commands.proofs.FromLaws.{answer_before}
use Rattle.morris_folder_commands.proofs.from.read_or_known.Goals as goal

pub returns-in-None-clause-answer : goal.returns-in-None-clause-answer
returns-in-None-clause-answer g c = λ files unchanged known.
    answer_before g.B.Geometry.shape files (g.F.Folder.files c.args.folder.now) (name_of c.args.board.now c.args.pair) c.args.pair c.read_table_file.result unchanged
    c.read_table_file.ensures.answer
