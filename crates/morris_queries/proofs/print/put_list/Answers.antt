use Rattle.morris_board.proofs.PrinterLaws.{and_then_as}
use Rattle.morris_queries.proofs.Pieces.{to_read}
use Rattle.morris_queries.proofs.print.put_list.Goals as goal

pub loop-item-preserved : goal.loop-item-preserved
loop-item-preserved g c =
    and_then_as (to_read g.T.Listed.text c.args.list.now c.loop-item.item-index c.item-item.result c.loop-item-test.true c.item-item.is)
    c.loop-item.invariant c.put_listed.ensures
