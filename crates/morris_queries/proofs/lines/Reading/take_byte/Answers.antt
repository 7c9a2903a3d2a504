use Rattle.morris_queries.proofs.LineAnswerLaws.{read_byte}
use Rattle.morris_queries.proofs.lines.Reading.take_byte.Goals as goal

pub returns-clause-taken : goal.returns-clause-taken
returns-clause-taken g c = λ name known start read here. record {
  of = here.of;
  to =
      read_byte g.B.Geometry.shape name known c.args.self.now.show read c.args.byte start (g.O.Sink.contents c.args.self.now.output.now)
      c.args.self.now.line.items c.take_in.new.line.items c.args.self.now.tally c.if-byte-eq10.false c.take_in.ensures here.to;
}
