use Rattle.std.proofs.Common.{sym, ◌∙◌}
use Rattle.morris_probe.proofs.ProbingLaws.{lost_with_two}
use Rattle.morris_lookup.proofs.tables.Tables.value.Goals as goal

pub returns-in-None-clause-exact : goal.returns-in-None-clause-exact
returns-in-None-clause-exact g c = λ exact. lost_with_two g.B.Geometry.shape c.args.position.now (sym c.of.ensures.pair ∙ c.in-None.is)
