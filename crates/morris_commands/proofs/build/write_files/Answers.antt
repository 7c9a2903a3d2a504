use Rattle.morris_commands.proofs.BuildLaws.{files_out, files_part}
use Rattle.morris_commands.specs.Build.{pairs_written}
use Rattle.morris_commands.proofs.build.write_files.Goals as goal

pub returns-in-Ok-clause-files : goal.returns-in-Ok-clause-files
returns-in-Ok-clause-files g c =
    files_out g.B.Geometry.shape c.args.layout c.args.tables.now (pairs_written c.args.all c.args.pair) c.requires.exact (g.O.Sink.contents c.args.output.now)
    (g.O.Sink.contents c.send_files.new.output) c.in-Ok.ensures.sent.appended

pub returns-in-Err-clause-files : goal.returns-in-Err-clause-files
returns-in-Err-clause-files g c =
    files_part g.B.Geometry.shape c.args.layout c.args.tables.now (pairs_written c.args.all c.args.pair) c.requires.exact (g.O.Sink.contents c.args.output.now)
    (g.O.Sink.contents c.send_files.new.output) c.in-Err.sent c.in-Err.ensures.sent
