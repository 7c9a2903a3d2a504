use Rattle.morris_board.proofs.PrinterLaws.{and_then}
use Rattle.morris_commands.proofs.print_look.put_counts.Goals as goal

pub returns : goal.returns
returns g c =
    and_then (rw (c.from.ensures, c.counts-own.ensures.own) at c.put_count.ensures) (rw (c.from-2.ensures, c.counts-own.ensures.other) at c.put_number_line.ensures)
