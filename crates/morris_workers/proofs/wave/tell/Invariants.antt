use Rattle.morris_workers.proofs.wave.tell.Given as goal

abbrev pub invariant-loop-wave : goal.invariant-loop-wave
invariant-loop-wave g l = g.W.Watch.becomes l.fn.watch l.watch
