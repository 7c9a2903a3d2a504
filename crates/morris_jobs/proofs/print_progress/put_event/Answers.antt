use Rattle.morris_board.proofs.PrinterLaws.{and_then}
use Rattle.morris_jobs.proofs.print_progress.put_event.Goals as goal

pub returns-in-Whole : goal.returns-in-Whole
returns-in-Whole g c =
    rw c.in-Whole.is
    (and_then (and_then c.put_count.ensures c.put_count-in-Whole.ensures) c.put.ensures)

pub returns-in-Wave : goal.returns-in-Wave
returns-in-Wave g c =
    rw c.in-Wave.is
    (and_then (and_then (and_then c.put-in-Wave.ensures c.put_stones.ensures) (rw c.from.ensures at c.put_count-in-Wave.ensures)) c.put_so_far.ensures)

pub returns-in-Part : goal.returns-in-Part
returns-in-Part g c =
    rw c.in-Part.is
    (and_then (and_then c.put-in-Part.ensures c.put_stones-in-Part.ensures) c.put_so_far-in-Part.ensures)

pub returns-in-Done : goal.returns-in-Done
returns-in-Done g c =
    rw c.in-Done.is
    (and_then (and_then (and_then c.put-in-Done.ensures c.put_stones-in-Done.ensures) c.put-in-Done-2.ensures) c.put_so_far-in-Done.ensures)
