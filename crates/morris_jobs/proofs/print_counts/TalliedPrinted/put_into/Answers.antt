use Rattle.std.proofs.Common.{arith}
use Rattle.morris_jobs.proofs.LengthLaws.{stats_few}
use Rattle.morris_jobs.proofs.print_counts.TalliedPrinted.put_into.Goals as goal

pub returns-clause-few : goal.returns-clause-few
returns-clause-few g c = λ short.
    let it = c.args.self.now in
    omega (arith, stats_few g.B.Geometry.POINTS it.pair it.tallies.items short)
