use Rattle.morris_board.proofs.PrinterLaws.{and_then}
use Rattle.morris_queries.specs.Printing.{outcome_line}
use Rattle.morris_queries.proofs.print.OutcomeListed.put_listed.Goals as goal

pub returns : goal.returns
unfolding outcome_line
returns g c =
    and_then (and_then (and_then c.put.ensures c.put_move.ensures) c.put_value.ensures) c.put-2.ensures
