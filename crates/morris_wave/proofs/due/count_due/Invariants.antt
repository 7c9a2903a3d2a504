use Rattle.std.proofs.Common.{◌≡◌, length}
use Rattle.morris_wave.proofs.due.count_due.Given as goal

abbrev pub invariant-loop-wave : goal.invariant-loop-wave
invariant-loop-wave l = length l.counts.items ≡ length l.initial.counts.items
