use Rattle.morris_probe.proofs.LengthLaws.{report_few}
use Rattle.morris_probe.proofs.report.ProbedPrinted.put_into.Goals as goal

pub returns-clause-few : goal.returns-clause-few
returns-clause-few g c short =
    let it = c.args.self.now in
    report_few g.B.Geometry.shape it.position.now it.found it.best.now (rw g.met.B.Geometry.point_count g.met.B.Geometry.few) short
