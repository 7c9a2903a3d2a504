-- One line is written, whole or in part, where it is time for it and the sink has room.
use Rattle.std.proofs.Common.{◌≡◌, ◌∙◌, true, false, refl, sym, arith}
use Rattle.morris_jobs.proofs.progress_printer.ProgressPrinter.report.Goals as goal

pub returns-clause-reported : goal.returns-clause-reported
returns-clause-reported g c = record {
  same = refl;
  rewrites = refl;
  begun = refl;
  whole = refl;
  silent = λ e.
      let bad : true ≡ false = sym c.if-not-self.false ∙ e in
      cc;
  early = λ e.
      let bad : true ≡ false = sym c.if-not-self-2.false ∙ e in
      cc;
  cramped = λ e b full. absurd (omega (arith, full, c.if-failures.false, c.failures.ensures));
  said = λ e b room. (c.send.result, c.send.ensures.sent, c.send.ensures.counted, c.is_ok-self.ensures.value);
}
