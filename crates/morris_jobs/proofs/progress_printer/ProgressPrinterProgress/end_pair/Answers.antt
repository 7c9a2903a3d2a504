use Rattle.morris_jobs.proofs.SpeakLaws.{Becomes-speaks}
use Rattle.morris_jobs.proofs.progress_printer.ProgressPrinterProgress.end_pair.Goals as goal

pub returns-clause-reported : goal.returns-clause-reported
returns-clause-reported g c = Becomes-speaks g.E.Sink.contents g.E.Sink.failures c.args.self.now c.report.new.self _ c.report.ensures.reported
