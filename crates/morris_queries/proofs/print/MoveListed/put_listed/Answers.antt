use Rattle.morris_board.proofs.PrinterLaws.{and_then}
use Rattle.morris_queries.proofs.print.MoveListed.put_listed.Goals as goal

pub returns : goal.returns
returns g c =
    and_then c.put.ensures c.put_move.ensures
