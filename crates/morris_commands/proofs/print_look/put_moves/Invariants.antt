use Rattle.std.proofs.Common.{◌≡◌, ◌++◌}
use Rattle.std.specs.List.{flat_map}
use Rattle.morris_moves.specs.Rules.{moves_of}
use Rattle.morris_probe.specs.Lines.{move_line}
use Rattle.morris_board.specs.Printers.{Takes}
use Rattle.morris_commands.proofs.print_look.put_moves.Given as goal

-- the lines of the moves so far have gone in, and the iterator has the others
abbrev pub invariant-loop-m : goal.invariant-loop-m
invariant-loop-m g l = record {
  takes : Takes g.S.Sink.contents g.S.Sink.failures l.initial.out l.out (flat_map move_line l.yielded);
  split : l.yielded ++ l.m-iterator ≡ moves_of g.B.Geometry.shape l.position;
}
