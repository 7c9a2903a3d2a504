-- The moves so far are written, and the iterator has the others.
use Rattle.std.proofs.Common.{◌≡◌, ◌≤◌, ◌++◌, length, take}
use Rattle.std.specs.Prelude.{map}
use Rattle.morris_moves.specs.Rules.{moves_of}
use Rattle.morris_c.specs.Plays.{bare_record}
use Rattle.morris_c.proofs.plays.write_moves.Given as goal

abbrev pub invariant-loop-m : goal.invariant-loop-m
invariant-loop-m g l = record {
  listed : l.yielded ++ l.m-iterator ≡ moves_of g.B.Geometry.shape l.position;
  done : l.done ≡ length l.yielded;
  room : length (moves_of g.B.Geometry.shape l.position) ≤ length l.out;
  written : take l.done l.out ≡ map bare_record l.yielded;
}
