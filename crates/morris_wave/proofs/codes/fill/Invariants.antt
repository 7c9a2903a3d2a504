use Rattle.std.proofs.Common.{◌≡◌, ◌≤◌, replicate}
use Rattle.std.specs.Vec.{vec_capacity}
use Rattle.morris_wave.proofs.codes.fill.Given as goal

abbrev pub invariant-loop : goal.invariant-loop
invariant-loop l = (l.bytes.items ≡ replicate l.counter 0) × (l.count ≤ vec_capacity l.bytes)
