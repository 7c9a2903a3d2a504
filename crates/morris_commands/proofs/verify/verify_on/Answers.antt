-- A table that isn't believed is refused, with nothing printed.
use Rattle.std.proofs.Common.{◌≡◌, Ok, Err, length, refl, ap, subst, ◌∙◌, inl, inr}
use Rattle.std.proofs.KnownBytes.{Keeps-refl}
use Rattle.std.proofs.lemmas.Result.{err_from_is_err_and}
use Rattle.morris_pairs.specs.declared.file_faults.ReadFault.TheVariants as read
use Rattle.morris_jobs.specs.Faults.{Prints}
use Rattle.morris_jobs.specs.Verified.{verified_text}
use Rattle.morris_commands.proofs.verify.verify_on.Goals as goal

pub returns-in_err-exact-clause-answer : goal.returns-in_err-exact-clause-answer
returns-in_err-exact-clause-answer g c =
    let failed = err_from_is_err_and c.from_residual-in_err-exact.result c.from_residual-in_err-exact.ensures.1 in (
      Ok c.in_ok-raw.raw,
      c.in_ok-raw.ensures.outcome,
      c.in_ok-raw.ensures.counted,
      λ e.
          let bad : Ok c.in_ok-raw.raw ≡ Err read.Memory = e in
          cc,
      c.in_ok-raw.ensures.place,
      inl (_, failed.1 ∙ ap Err failed.2, c.in_err-exact.ensures.refused, Keeps-refl (g.O.Sink.contents c.args.output.now)),
    )

-- the text of one that is exact is printed
pub returns-clause-answer : goal.returns-clause-answer
returns-clause-answer g c =
    let t = c.in_ok-raw.raw in
    let text : verified_text c.pair-pair.result c.len-entries.result ≡ verified_text t.pair (length t.codes) =
    rw (c.pair-pair.ensures.value, c.len-entries.ensures.value, c.in_ok-exact.ensures.value) refl in (
      Ok c.in_ok-raw.raw,
      c.in_ok-raw.ensures.outcome,
      c.in_ok-raw.ensures.counted,
      λ e.
          let bad : Ok c.in_ok-raw.raw ≡ Err read.Memory = e in
          cc,
      c.in_ok-raw.ensures.place,
      inr (
        c.in_ok-exact.ensures.within,
        c.in_ok-exact.ensures.exact,
        subst (λ s. Prints (g.O.Sink.contents c.args.output.now) (g.O.Sink.contents c.print.new.output) s c.print.result) text
            c.print.ensures.shown,
      ),
    )

pub returns-in_err-raw-clause-reported : goal.returns-in_err-raw-clause-reported
returns-in_err-raw-clause-reported g c = g.met.T.Watch.stays c.args.progress.now

pub returns-in_err-exact-clause-reported : goal.returns-in_err-exact-clause-reported
returns-in_err-exact-clause-reported g c = c.believe.ensures.reported

pub returns-clause-reported : goal.returns-clause-reported
returns-clause-reported g c = c.believe.ensures.reported
