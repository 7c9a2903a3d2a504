-- The line of a table that was verified is short.
use Rattle.std.proofs.Common.{◌≡◌, arith, inr, refl, subst}
use Rattle.morris_jobs.specs.Faults.{PrintsLine}
use Rattle.morris_jobs.specs.Verified.{verified_text}
use Rattle.morris_folder_commands.specs.From.{verified_line}
use Rattle.morris_jobs.proofs.LengthLaws.{verified_few}
use Rattle.morris_folder_commands.proofs.LineLaws.{line_few}
use Rattle.morris_folder_commands.proofs.from.take_in.Goals as goal

pub print_after-requires-clause-few : goal.print_after-requires-clause-few
print_after-requires-clause-few g c = omega (arith, verified_few c.pair-pair.result c.len-entries.result)

pub returns-clause-few : goal.returns-clause-few
returns-clause-few g c =
    line_few _ c.args.sent (g.O.Sink.contents c.args.output.now) (g.O.Sink.contents c.print_after.new.output) c.print_after.result
    (verified_few c.pair-pair.result c.len-entries.result) c.print_after.ensures.printed

-- the table joins the others, and its line is printed
pub returns-clause-taken : goal.returns-clause-taken
returns-clause-taken g c =
    let exact = c.in-Ok.ensures in
    let line : verified_text c.pair-pair.result c.len-entries.result ≡ verified_line c.args.raw = rw (c.pair-pair.ensures.value, c.len-entries.ensures.value, exact.value) refl in
    inr (
      record { ready = exact.ready; exact = exact.exact; this = rw exact.value at c.put.ensures.this; others = rw exact.value at c.put.ensures.others },
      subst (λ text. PrintsLine text c.args.sent (g.O.Sink.contents c.args.output.now) (g.O.Sink.contents c.print_after.new.output) c.print_after.result) line
          c.print_after.ensures.printed,
    )

-- ---- what was reported as the pair began, by its verification, and at its end

pub returns-in-Err-clause-reported : goal.returns-in-Err-clause-reported
returns-in-Err-clause-reported g c = g.met.T.Watch.joins _ _ _ c.begin_pair.ensures.reported c.verify_over.ensures.reported

pub returns-clause-reported : goal.returns-clause-reported
returns-clause-reported g c =
    let verified = g.met.T.Watch.joins _ _ _ c.begin_pair.ensures.reported c.verify_over.ensures.reported in
    g.met.T.Watch.joins _ _ _ verified c.end_pair.ensures.reported
