use Rattle.morris_board.proofs.PrinterLaws.{and_then}
use Rattle.morris_probe.proofs.print.put_signed.Goals as goal

pub returns : goal.returns
returns g c = and_then c.put_byte.ensures (rw c.from.ensures at c.put_number.ensures)
