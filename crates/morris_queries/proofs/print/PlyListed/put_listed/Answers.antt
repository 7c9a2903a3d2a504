use Rattle.morris_board.proofs.PrinterLaws.{and_then}
use Rattle.morris_queries.specs.Printing.{ply_line}
use Rattle.morris_queries.proofs.print.PlyListed.put_listed.Goals as goal

pub returns : goal.returns
unfolding ply_line
returns g c =
    rw (← c.self.view_is)
    (and_then (and_then (and_then (and_then c.put.ensures c.put_move.ensures) (and_then c.put-2.ensures c.put_text.ensures)) c.put_value.ensures) c.put-3.ensures)
