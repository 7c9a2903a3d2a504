use Rattle.morris_queries.proofs.LineAnswerLaws.{read_none}
use Rattle.morris_queries.proofs.lines.Reading.new.Goals as goal

pub returns-clause-stands : goal.returns-clause-stands
returns-clause-stands g c = λ name known start of begun. record {
  of = of;
  to = read_none g.B.Geometry.shape name known c.args.show start (g.O.Sink.contents c.args.output.now) c.new.result.items c.args.tally c.new.ensures begun;
}
