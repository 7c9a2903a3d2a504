use Rattle.morris_queries.proofs.LengthLaws.{reported_few}
use Rattle.morris_queries.proofs.print.ReportLinesPrinted.put_into.Goals as goal

pub returns-in-Best-clause-few : goal.returns-in-Best-clause-few
returns-in-Best-clause-few g c = λ short.
    let it = c.args.self.now in
    reported_few g.B.Geometry.shape it.show it.text.now it.reported.now (rw g.met.B.Geometry.point_count g.met.B.Geometry.few) short

pub returns-in-Moves-clause-few : goal.returns-in-Moves-clause-few
returns-in-Moves-clause-few g c = λ short.
    let it = c.args.self.now in
    reported_few g.B.Geometry.shape it.show it.text.now it.reported.now (rw g.met.B.Geometry.point_count g.met.B.Geometry.few) short

pub returns-in-Line-clause-few : goal.returns-in-Line-clause-few
returns-in-Line-clause-few g c = λ short.
    let it = c.args.self.now in
    reported_few g.B.Geometry.shape it.show it.text.now it.reported.now (rw g.met.B.Geometry.point_count g.met.B.Geometry.few) short

pub returns-in-Csv-clause-few : goal.returns-in-Csv-clause-few
returns-in-Csv-clause-few g c = λ short.
    let it = c.args.self.now in
    reported_few g.B.Geometry.shape it.show it.text.now it.reported.now (rw g.met.B.Geometry.point_count g.met.B.Geometry.few) short
