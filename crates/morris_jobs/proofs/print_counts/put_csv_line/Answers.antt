use Rattle.std.proofs.lemmas.Bool.{ne_eqb}
use Rattle.morris_board.proofs.PrinterLaws.{Takes-nil, and_then}
use Rattle.morris_jobs.proofs.print_counts.put_csv_line.Goals as goal

-- no depth
pub returns-in-None : goal.returns-in-None
returns-in-None g c =
    let front = and_then (and_then (rw c.from.ensures at c.put_number.ensures) c.put_signed.ensures) c.put.ensures in
    rw (ne_eqb _ _ c.if-count-eq0.false, c.in-None.is)
    (and_then (and_then front (Takes-nil g.S.Sink.contents g.S.Sink.failures c.put.new.self)) c.put_number_line-in-None.ensures)
