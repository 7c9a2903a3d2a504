-- So far the first `done` bytes of the text went out, and no call failed.
use Rattle.std.proofs.Common.{◌≡◌, ◌-◌, ◌≤◌, length, take}
use Rattle.std.specs.Io.KnownBytes.{Appends}
use Rattle.morris_board.proofs.streams.put.Given as goal

abbrev pub invariant-loop-done : goal.invariant-loop-done
invariant-loop-done g l = record {
  within : l.done ≤ length l.text;
  appended : Appends (g.S.Sink.contents l.initial.sink) (g.S.Sink.contents l.sink) (take l.done l.text);
  uncounted : g.S.Sink.failures l.sink ≡ g.S.Sink.failures l.initial.sink;
}

abbrev pub decreases-loop-done : goal.decreases-loop-done
decreases-loop-done g l = length l.text - l.done
