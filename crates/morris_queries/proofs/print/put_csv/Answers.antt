use Rattle.morris_board.proofs.PrinterLaws.{and_then_as}
use Rattle.morris_queries.specs.Printing.{csv_line}
use Rattle.morris_queries.proofs.Pieces.{pieces_to}
use Rattle.morris_queries.proofs.print.put_csv.Goals as goal

pub loop-outcome-preserved : goal.loop-outcome-preserved
loop-outcome-preserved g c =
    and_then_as (pieces_to (csv_line c.args.points c.args.text.now) c.args.outcomes.now c.loop-outcome.outcome-index _ c.loop-outcome-test.true)
    c.loop-outcome.invariant c.put_csv_line.ensures
