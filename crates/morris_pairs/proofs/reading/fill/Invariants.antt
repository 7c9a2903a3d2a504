-- The reads so far filled the front of the buffer, and none failed.
use Rattle.std.proofs.Common.{◌≡◌, ◌-◌, ◌≤◌, length, take}
use Rattle.std.specs.Io.KnownBytes.{Consumes}
use Rattle.morris_pairs.proofs.reading.fill.Given as goal

abbrev pub invariant-loop-done : goal.invariant-loop-done
invariant-loop-done g l = record {
  within : l.done ≤ length l.buffer;
  consumed : Consumes (g.S.Source.remaining l.fn.source) (g.S.Source.remaining l.source) (take l.done l.buffer);
  uncounted : g.S.Source.failures l.source ≡ g.S.Source.failures l.fn.source;
}

abbrev pub decreases-loop-done : goal.decreases-loop-done
decreases-loop-done g l = length l.initial.buffer - l.done
