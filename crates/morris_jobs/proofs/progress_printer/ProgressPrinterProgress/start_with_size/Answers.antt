-- How much there is to do is reported once that is known, and nothing where it is reported no more
-- or again.
use Rattle.std.proofs.Common.{◌≡◌, ◌∙◌, true, false, sym}
use Rattle.morris_jobs.specs.Progress.{progress_state_of}
use Rattle.morris_jobs.specs.ProgressLaws.{Becomes-stays}
use Rattle.morris_jobs.proofs.SpeakLaws.{Continues-speaks}
use Rattle.morris_jobs.proofs.progress_printer.ProgressPrinterProgress.start_with_size.Goals as goal

pub returns-then-not-self-clause-reported : goal.returns-then-not-self-clause-reported
returns-then-not-self-clause-reported g c = Becomes-stays g.E.Sink.contents g.E.Sink.failures c.args.self.now

pub returns-clause-reported : goal.returns-clause-reported
returns-clause-reported g c =
    let reported = c.report.ensures.reported in
    Continues-speaks g.E.Sink.contents g.E.Sink.failures (progress_state_of c.args.self.now) (progress_state_of c.report.new.self) _ true _ reported
    (λ new known. (reported.begun, sym reported.whole))
    (λ known.
    let bad : true ≡ false = sym known ∙ c.if-self.false in
    cc)
