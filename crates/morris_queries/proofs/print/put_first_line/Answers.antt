use Rattle.morris_board.proofs.PrinterLaws.{and_then}
use Rattle.morris_queries.specs.Printing.{first_line}
use Rattle.morris_queries.proofs.print.put_first_line.Goals as goal

pub returns : goal.returns
unfolding first_line
returns g c =
    and_then (and_then (and_then (rw c.POINTS.ensures at c.put_shown.ensures) (rw c.value.ensures at c.put_value.ensures)) (rw c.best.ensures at c.put_best.ensures)) c.put.ensures
