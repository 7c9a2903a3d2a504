use Rattle.std.proofs.Common.{arith, length-append}
use Rattle.morris_board.proofs.PrinterLaws.{and_then}
use Rattle.morris_jobs.specs.Faults.{fault_line}
use Rattle.morris_queries.proofs.LengthLaws.{shown_few}
use Rattle.morris_queries.proofs.print.RefusedPrinted.put_into.Goals as goal

pub returns-clause-takes : goal.returns-clause-takes
unfolding fault_line
returns-clause-takes g c =
    and_then (and_then c.put_shown.ensures c.put.ensures) (and_then c.put_fault.ensures.takes c.put-2.ensures)

pub returns-clause-few : goal.returns-clause-few
unfolding fault_line
returns-clause-few g c = λ short. simp length-append (omega (arith, shown_few c.args.self.now.points c.args.self.now.text.now short, c.put_fault.ensures.few))
