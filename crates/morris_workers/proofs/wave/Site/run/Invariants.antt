use Rattle.morris_workers.proofs.wave.Site.run.Given as goal

abbrev pub invariant-loop : goal.invariant-loop
invariant-loop g l = g.W.Watch.becomes l.fn.watch l.watch
