use Rattle.morris_board.proofs.PrinterLaws.{and_then}
use Rattle.morris_jobs.specs.Counted.{stats_text}
use Rattle.morris_jobs.proofs.print_counts.put_tallies.Goals as goal

pub returns : goal.returns
unfolding stats_text
returns g c =
    let line = and_then (and_then c.put_pair.ensures (rw c.size.ensures.value at c.put_count.ensures)) c.put.ensures in
    and_then (and_then line (rw c.draws_and_decided-draws.ensures.decided at c.put_depths.ensures))
    (rw c.draws_and_decided-draws.ensures.draws at c.put_number_line.ensures)
