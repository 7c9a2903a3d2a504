use Rattle.std.specs.Sync.Mutex.{mutex_guard_value}
use Rattle.morris_workers.proofs.Exact.{is_exact}
use Rattle.morris_workers.proofs.yard.with_facts.Goals as goal

pub returns-clause-exact : goal.returns-clause-exact
returns-clause-exact g c = is_exact (g.N.Levels.net (mutex_guard_value c.args.guard).level) (mutex_guard_value c.args.guard)
