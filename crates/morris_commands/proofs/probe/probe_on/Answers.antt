use Rattle.std.proofs.Common.{Err, ap, ◌∙◌}
use Rattle.std.proofs.lemmas.Result.{err_from_is_err_and}
use Rattle.morris_jobs.proofs.FaultLaws.{counted_refused}
use Rattle.morris_commands.proofs.probe.probe_on.Goals as goal

pub returns-in_err-position-clause-reported : goal.returns-in_err-position-clause-reported
returns-in_err-position-clause-reported g c = g.met.T.Watch.stays c.args.progress.now

pub returns-in_err-shelf-clause-reported : goal.returns-in_err-shelf-clause-reported
returns-in_err-shelf-clause-reported g c = c.load_bundle.ensures.reported

pub returns-clause-reported : goal.returns-clause-reported
returns-clause-reported g c = c.load_bundle.ensures.reported

pub returns-clause-counted : goal.returns-clause-counted
returns-clause-counted g c = c.show_report.ensures.counted

pub returns-in_err-shelf-clause-counted : goal.returns-in_err-shelf-clause-counted
returns-in_err-shelf-clause-counted g c =
    let failed = err_from_is_err_and c.from_residual-in_err-shelf.result c.from_residual-in_err-shelf.ensures.1 in
    counted_refused (g.O.Sink.failures c.args.output.now) c.from_residual-in_err-shelf.result _ (failed.1 ∙ ap Err failed.2) c.in_err-shelf.ensures.unwritten
