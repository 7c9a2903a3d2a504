use Rattle.std.proofs.Common.{codes}
use Rattle.clap.specs.Words.{found_of, rows_of}
use Rattle.morris_words.proofs.ReadLaws.{clash_answered}
use Rattle.morris_words.proofs.arguments.lookup_request.Goals as goal

pub returns-in-Err-clause-refused : goal.returns-in-Err-clause-refused
returns-in-Err-clause-refused c = clash_answered (codes "lookup") (rows_of (found_of c.args.found.now)) c.clash.result c.in-Err.ensures.clash c.clash.ensures
