use Rattle.morris_board.proofs.PrinterLaws.{and_then}
use Rattle.morris_commands.proofs.LengthLaws.{counted_few}
use Rattle.morris_commands.proofs.print_stats.CountedPrinted.put_into.Goals as goal

pub returns-clause-takes : goal.returns-clause-takes
returns-clause-takes g c =
    and_then (rw c.as_slice.ensures.value at c.put_tallies.ensures) (and_then c.put_found.ensures c.put_found-2.ensures)

pub returns-clause-few : goal.returns-clause-few
returns-clause-few g c = λ short.
    let it = c.args.self.now in
    counted_few g.B.Geometry.POINTS g.B.Geometry.shape it.tallied.pair it.tallied.tallies.items it.deepest
    (rw g.met.B.Geometry.point_count g.met.B.Geometry.few) short
