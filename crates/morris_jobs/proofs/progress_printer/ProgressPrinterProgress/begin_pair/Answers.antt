-- The pair at work is no part of what was reported.
use Rattle.morris_jobs.specs.ProgressLaws.{Becomes-stays}
use Rattle.morris_jobs.proofs.progress_printer.ProgressPrinterProgress.begin_pair.Goals as goal

pub returns-clause-reported : goal.returns-clause-reported
returns-clause-reported g c = Becomes-stays g.E.Sink.contents g.E.Sink.failures c.args.self.now
