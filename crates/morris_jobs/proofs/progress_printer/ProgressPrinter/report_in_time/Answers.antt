-- Nothing changes before the next second.
use Rattle.std.proofs.Common.{refl, inl}
use Rattle.morris_jobs.specs.ProgressLaws.{Becomes-stays}
use Rattle.morris_jobs.proofs.SpeakLaws.{Becomes-speaks, MayReport-speaks}
use Rattle.morris_jobs.proofs.progress_printer.ProgressPrinter.report_in_time.Goals as goal

pub returns-then-second-self : goal.returns-then-second-self
returns-then-second-self g c = record { reported = Becomes-stays g.E.Sink.contents g.E.Sink.failures c.args.self.now; part = refl; line = inl refl }

pub returns : goal.returns
returns g c = record {
  reported = Becomes-speaks g.E.Sink.contents g.E.Sink.failures c.args.self.now c.report.new.self _ c.report.ensures.reported;
  part = c.report.ensures.part;
  line = MayReport-speaks g.E.Sink.contents g.E.Sink.failures c.args.self.now c.report.new.self _ c.report.ensures.reported;
}
