use Rattle.std.proofs.Common.{[], arith}
use Rattle.morris_probe.proofs.LengthLaws.{number_line_few}
use Rattle.morris_queries.proofs.find.TotalPrinted.put_into.Goals as goal

pub returns-clause-few : goal.returns-clause-few
returns-clause-few g c = λ short. omega (arith, number_line_few [] c.args.self.now.0)
