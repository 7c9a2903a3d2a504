use Rattle.morris_board.proofs.PrinterLaws.{and_then}
use Rattle.morris_commands.specs.Look.{look_text}
use Rattle.std.proofs.Common.{arith}
use Rattle.morris_commands.proofs.LengthLaws.{look_few}
use Rattle.morris_commands.proofs.print_look.LookedPrinted.put_into.Goals as goal

pub returns-clause-takes : goal.returns-clause-takes
unfolding look_text
returns-clause-takes g c =
    let moves = and_then (and_then c.put_position.ensures c.put_counts.ensures) c.put_moves.ensures in
    and_then (and_then moves (rw c.move_count.ensures at c.put_number_line.ensures)) c.put_within.ensures

pub returns-clause-few : goal.returns-clause-few
returns-clause-few g c = λ short.
    let it = c.args.self.now in
    omega (arith, look_few g.B.Geometry.shape it.position it.plies it.found (rw g.met.B.Geometry.point_count g.met.B.Geometry.few))
