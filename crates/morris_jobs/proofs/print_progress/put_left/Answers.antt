use Rattle.std.proofs.lemmas.Bool.{le-ltb, lt-ltb, ne_eqb}
use Rattle.morris_board.proofs.PrinterLaws.{and_then}
use Rattle.morris_jobs.proofs.print_progress.put_left.Goals as goal

pub returns-then-seconds-lt120 : goal.returns-then-seconds-lt120
returns-then-seconds-lt120 g c =
    rw (ne_eqb _ _ c.if-seconds-eq0.false, lt-ltb _ _ c.if-seconds-lt120.true)
    (and_then c.put_count.ensures c.put.ensures)

pub returns-else-seconds-lt120 : goal.returns-else-seconds-lt120
returns-else-seconds-lt120 g c =
    rw (ne_eqb _ _ c.if-seconds-eq0.false, le-ltb _ _ c.if-seconds-lt120.false)
    (and_then c.put_count-else-seconds-lt120.ensures c.put-else-seconds-lt120.ensures)
