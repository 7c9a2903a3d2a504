use Rattle.morris_jobs.specs.ProgressLaws.{Becomes-stays}
use Rattle.morris_jobs.proofs.SpeakLaws.{Becomes-speaks}
use Rattle.morris_jobs.proofs.progress_printer.ProgressPrinter.clear.Goals as goal

pub returns-then-self-clause-reported : goal.returns-then-self-clause-reported
returns-then-self-clause-reported g c = Becomes-speaks g.E.Sink.contents g.E.Sink.failures c.args.self.now c.report.new.self _ c.report.ensures.reported

pub returns-else-self-clause-reported : goal.returns-else-self-clause-reported
returns-else-self-clause-reported g c = Becomes-stays g.E.Sink.contents g.E.Sink.failures c.args.self.now
