-- What is reported before the pairs below are built, by their builds, and by the verification.
use Rattle.std.proofs.lemmas.Result.{err_from_is_err_and}
use Rattle.morris_commands.proofs.AloneLaws.{unbelieved_before, unfit}
use Rattle.morris_commands.proofs.verify.believe.Goals as goal

pub returns-clause-reported : goal.returns-clause-reported
returns-clause-reported g c =
    let built = g.met.T.Watch.joins _ _ _ c.start.ensures.reported c.in_ok-tables.ensures.reported in
    let begun = g.met.T.Watch.joins _ _ _ built c.begin_pair.ensures.reported in
    let judged = g.met.T.Watch.joins _ _ _ begun c.in_ok-exact.ensures.reported in
    g.met.T.Watch.joins _ _ _ judged c.end_pair.ensures.reported

pub returns-in_err-exact-clause-reported : goal.returns-in_err-exact-clause-reported
returns-in_err-exact-clause-reported g c =
    let built = g.met.T.Watch.joins _ _ _ c.start.ensures.reported c.in_ok-tables.ensures.reported in
    let begun = g.met.T.Watch.joins _ _ _ built c.begin_pair.ensures.reported in
    g.met.T.Watch.joins _ _ _ begun c.in_err-exact.ensures.reported

pub returns-in_err-tables-clause-reported : goal.returns-in_err-tables-clause-reported
returns-in_err-tables-clause-reported g c = g.met.T.Watch.joins _ _ _ c.start.ensures.reported c.build_before.ensures.reported

pub returns-in_err-tables-clause-refused : goal.returns-in_err-tables-clause-refused
returns-in_err-tables-clause-refused g c =
    let failed = err_from_is_err_and c.from_residual.result c.from_residual.ensures.1 in
    rw (failed.1, failed.2)
    (unbelieved_before g.B.Geometry.shape c.args.raw c.args.context.parallelism.blocks _ (rw c.pair-pair.ensures.value at c.in_err-tables.ensures.refused))

pub returns-in_err-exact-clause-refused : goal.returns-in_err-exact-clause-refused
returns-in_err-exact-clause-refused g c =
    let failed = err_from_is_err_and c.from_residual-in_err-exact.result c.from_residual-in_err-exact.ensures.1 in
    rw (failed.1, failed.2)
    (unfit g.B.Geometry.shape c.args.raw c.in_ok-tables.tables c.args.context.parallelism.blocks _ (rw c.pair-pair.ensures.value at c.in_ok-tables.ensures.within)
    (rw c.pair-pair.ensures.value at c.in_ok-tables.ensures.ready) c.in_err-exact.ensures.refused)
