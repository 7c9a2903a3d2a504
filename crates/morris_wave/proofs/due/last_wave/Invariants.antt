use Rattle.std.proofs.Common.{ℕ, ◌<◌, ◌≤◌, slice_index}
use Rattle.morris_wave.proofs.due.last_wave.Given as goal

abbrev pub invariant-loop-wave : goal.invariant-loop-wave
invariant-loop-wave l = (k : ℕ) → k < l.wave-index → slice_index l.waves k ≤ l.last
