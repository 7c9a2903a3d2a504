use Rattle.std.proofs.Common.{◌≡◌}
use Rattle.morris_trials.proofs.probes.verified_input.Given as goal

-- no read has failed
abbrev pub invariant-loop : goal.invariant-loop
invariant-loop g l = record { unfailed : l.input.failures ≡ 0 }
