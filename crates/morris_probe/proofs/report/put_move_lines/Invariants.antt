use Rattle.std.proofs.Common.{take}
use Rattle.std.specs.List.{flat_map}
use Rattle.morris_probe.specs.Lines.{move_line}
use Rattle.morris_board.specs.Printers.{Takes}
use Rattle.morris_probe.proofs.report.put_move_lines.Given as goal

-- the lines of the moves so far have gone in
abbrev pub invariant-loop-m : goal.invariant-loop-m
invariant-loop-m g l = Takes g.S.Sink.contents g.S.Sink.failures l.initial.out l.out (flat_map move_line (take l.m-index l.moves))
