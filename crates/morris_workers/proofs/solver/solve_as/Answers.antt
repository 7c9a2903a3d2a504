use Rattle.std.proofs.Common.{IfErr, subst}
use Rattle.std.proofs.lemmas.Result.{err_from_is_err_and}
use Rattle.morris_workers.specs.Ranges.{Tells}
use Rattle.morris_workers.proofs.Faults.{making_tells}
use Rattle.morris_workers.proofs.solver.solve_as.Goals as goal

pub returns-in_err-made-clause-reported : goal.returns-in_err-made-clause-reported
returns-in_err-made-clause-reported g c =
    let failed = err_from_is_err_and c.from_residual.result c.from_residual.ensures.1 in
    rw (failed.1, failed.2) (making_tells (g.G.Name.Levels.net (g.G.Graph.level c.args.graph.now)) c.args.cut.now.blocks _ c.in_err-made.ensures.share)

pub returns-in_err-yard-clause-reported : goal.returns-in_err-yard-clause-reported
returns-in_err-yard-clause-reported g c =
    let failed = err_from_is_err_and c.from_residual-in_err-yard.result c.from_residual-in_err-yard.ensures.1 in
    rw (failed.1, failed.2) tt

pub returns-clause-reported : goal.returns-clause-reported
returns-clause-reported g c =
    subst (λ l. IfErr c.codes_of.result (Tells (g.G.Name.Levels.net l) c.args.cut.now.blocks)) c.level.ensures c.codes_of.ensures.fault

pub returns-clause-watched : goal.returns-clause-watched
returns-clause-watched g c = g.met.W.Watch.joins c.args.watch.now c.make_blocks.new.watch c.run-wave.new.watch c.make_blocks.ensures.reported c.run-wave.ensures.watched
