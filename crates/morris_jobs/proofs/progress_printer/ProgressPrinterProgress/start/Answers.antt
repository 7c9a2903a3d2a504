-- Nothing is reported again.
use Rattle.morris_jobs.specs.ProgressLaws.{Becomes-stays}
use Rattle.morris_jobs.proofs.progress_printer.ProgressPrinterProgress.start.Goals as goal

pub returns-else-self-clause-reported : goal.returns-else-self-clause-reported
returns-else-self-clause-reported g c = Becomes-stays g.E.Sink.contents g.E.Sink.failures c.args.self.now
