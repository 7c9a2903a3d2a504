use Rattle.morris_board.proofs.PrinterLaws.{and_then}
use Rattle.morris_queries.specs.Printing.{csv_line}
use Rattle.morris_queries.proofs.print.put_csv_line.Goals as goal

pub returns : goal.returns
unfolding csv_line
returns g c =
    and_then (and_then (and_then c.put_shown.ensures c.put.ensures) c.put_move.ensures) c.put_csv_value.ensures
