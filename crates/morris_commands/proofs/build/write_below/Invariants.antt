use Rattle.std.proofs.Common.{◌≡◌, ◌*◌, ◌≤◌, ◌^◌, ◌++◌, length}
use Rattle.std.specs.List.{flat_map}
use Rattle.morris_board.specs.Streams.{AllSent}
use Rattle.morris_index.specs.Pairs.{below_of}
use Rattle.morris_commands.specs.Build.{file_on}
use Rattle.morris_commands.proofs.build.write_below.Given as goal

-- the files of the pairs so far have gone out, and the iterator has the others
abbrev pub invariant-loop-below : goal.invariant-loop-below
invariant-loop-below g l = record {
  sent : AllSent (g.O.Sink.contents l.initial.output) (g.O.Sink.contents l.output) 0 l.sent (flat_map (file_on g.B.Geometry.shape l.fn.tables) l.yielded);
  split : l.yielded ++ l.below-iterator ≡ below_of l.fn.pair;
  few : l.sent ≤ 2 ^ 42 * length l.yielded;
  uncounted : g.O.Sink.failures l.output ≡ g.O.Sink.failures l.initial.output;
}
