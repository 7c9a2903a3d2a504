use Rattle.morris_board.proofs.PrinterLaws.{and_then}
use Rattle.morris_jobs.specs.Verified.{verified_text}
use Rattle.std.proofs.Common.{arith}
use Rattle.morris_jobs.proofs.LengthLaws.{verified_few}
use Rattle.morris_jobs.proofs.print_verified.VerifiedPrinted.put_into.Goals as goal

pub returns-clause-takes : goal.returns-clause-takes
unfolding verified_text
returns-clause-takes g c =
    and_then (and_then (and_then c.put.ensures c.put_pair.ensures) c.put_count.ensures) c.put-2.ensures

pub returns-clause-few : goal.returns-clause-few
returns-clause-few g c = λ short. omega (arith, verified_few c.args.self.now.pair c.args.self.now.entries)
