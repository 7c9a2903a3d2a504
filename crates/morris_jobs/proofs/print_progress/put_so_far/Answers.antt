use Rattle.morris_board.proofs.PrinterLaws.{and_then}
use Rattle.morris_jobs.proofs.print_progress.put_so_far.Goals as goal

pub returns : goal.returns
returns g c =
    let counted = and_then (and_then c.put_count.ensures c.put_count-2.ensures) (rw c.percent.ensures at c.put_count-3.ensures) in
    and_then (and_then (and_then (and_then counted c.put.ensures) c.put_count-4.ensures) c.put-2.ensures) c.put_left.ensures
