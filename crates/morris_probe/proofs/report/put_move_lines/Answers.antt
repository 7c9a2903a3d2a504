use Rattle.std.proofs.Common.{None}
use Rattle.morris_moves.specs.Rules.{move}
use Rattle.morris_board.proofs.PrinterLaws.{and_then_as}
use Rattle.morris_probe.proofs.ReportLaws.{lines_to}
use Rattle.morris_probe.proofs.report.put_move_lines.Goals as goal

pub loop-m-preserved : goal.loop-m-preserved
loop-m-preserved g c =
    and_then_as (lines_to c.args.moves.now c.loop-m.m-index (move 0 0 None) c.loop-m-test.true) c.loop-m.invariant c.put_move_line.ensures
