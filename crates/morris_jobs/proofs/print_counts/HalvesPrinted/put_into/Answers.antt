use Rattle.morris_board.proofs.PrinterLaws.{and_then}
use Rattle.morris_jobs.specs.Counted.{csv_text}
use Rattle.morris_jobs.proofs.print_counts.HalvesPrinted.put_into.Goals as goal

pub returns-clause-takes : goal.returns-clause-takes
unfolding csv_text
returns-clause-takes g c =
    let halves = c.args.self.now in
    and_then (and_then c.put.ensures (rw c.as_slice.ensures.value at c.put_lesser.ensures)) (rw (c.as_slice-2.ensures.value, c.greater-own.ensures.value, c.lesser-other.ensures.value) at c.put_half.ensures)
