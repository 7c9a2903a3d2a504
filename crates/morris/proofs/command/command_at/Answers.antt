-- Want of memory is answered, with nothing printed.
use Rattle.std.proofs.Common.{◌≡◌, ◌∙◌, ℕ, Bool, false, List, None, Option, refl, inl, inr, map, subst, sym, true, Err}
use Rattle.morris.specs.Command.{AsksToRead, ReportsProgress, folder_of, takes_input}
use Rattle.morris.specs.Reporting.{ReportsAt}
use Rattle.morris_jobs.specs.Progress.{Becomes, ReportsInOrder, has_begun_of, rewrites_of, sink_of, reports_of}
use Rattle.morris_jobs.specs.ProgressLaws.{Becomes-in_order, Becomes-joins}
use Rattle.morris_jobs.specs.declared.progress_printer.ProgressPrinter.{ProgressPrinter}
use Rattle.morris_words.specs.Words.{IsAnswerToOneOf, faults_of, named_by}
use Rattle.std.proofs.KnownBytes.{Keeps-refl}
use Rattle.morris_jobs.specs.declared.fault.Fault.TheVariants as fault
use Rattle.morris.proofs.command.command_at.Goals as goal

pub returns-in-Err-Memory-clause-answer : goal.returns-in-Err-Memory-clause-answer
returns-in-Err-Memory-clause-answer g c = λ other. (
  Err fault.Memory,
  c.args.errors.now,
  inr (inr (refl, refl, Keeps-refl (g.O.Sink.contents c.args.output.now))),
  inl refl,
  c.finish-in-Err-Memory.ensures.status,
  (None, None, inl refl, c.finish-in-Err-Memory.ensures.reported),
)

-- Help is printed where it was asked for, and so is the version.
pub returns-in-Err-Help-clause-answer : goal.returns-in-Err-Help-clause-answer
returns-in-Err-Help-clause-answer g c = λ other.
    let kinds = faults_of (map g.W.AsStr.text c.args.words.now) in
    let asked = subst (IsAnswerToOneOf kinds) c.in-Err-Help.field-0-is c.in-Err-Help.ensures.refused in (
      c.print.result,
      c.args.errors.now,
      inr (inl (inl asked, refl, (c.as_str.result.now, c.print.ensures.shown))),
      inl refl,
      c.finish-in-Err-Help.ensures.status,
      (None, None, inl refl, c.finish-in-Err-Help.ensures.reported),
    )

pub returns-in-Err-Version-clause-answer : goal.returns-in-Err-Version-clause-answer
returns-in-Err-Version-clause-answer g c = λ other.
    let kinds = faults_of (map g.W.AsStr.text c.args.words.now) in
    let asked = subst (IsAnswerToOneOf kinds) c.in-Err-Version.field-0-is c.in-Err-Version.ensures.refused in (
      c.print-in-Err-Version.result,
      c.args.errors.now,
      inr (inl (inr asked, refl, (c.as_str-in-Err-Version.result.now, c.print-in-Err-Version.ensures.shown))),
      inl refl,
      c.finish-in-Err-Version.ensures.status,
      (None, None, inl refl, c.finish-in-Err-Version.ensures.reported),
    )

-- A request for a command that reads its input is what the arguments ask for.
pub returns-in-Ok-clause-unread : goal.returns-in-Ok-clause-unread
returns-in-Ok-clause-unread g c = λ unasked. c.run-done.ensures.unread (reads_nothing unasked (takes_input c.in-Ok.request.task) refl)
  where
    reads_nothing : Prim.¬◌ (AsksToRead (named_by (map g.W.AsStr.text c.args.words.now))) → (b : Bool) → takes_input c.in-Ok.request.task ≡ b
        → takes_input c.in-Ok.request.task ≡ false
    reads_nothing unasked true is = absurd (unasked (c.in-Ok.request, c.in-Ok.ensures.request, is))
    reads_nothing unasked false is = is

-- What a command reported is what the error sink got: some lines, or none where nothing is
-- reported.
module _ {R E : Type 0} (contents : E → Option (List ℕ)) (failures : E → ℕ) (first last : ProgressPrinter R E) (reports : Becomes contents failures first last)
    (on_terminal : Bool) (old new : E) (rewrites : rewrites_of first ≡ on_terminal) (start : sink_of first ≡ old) (here : new ≡ sink_of last) where
  told_in_order : has_begun_of first ≡ false → ReportsInOrder contents failures on_terminal old new
  told_in_order begun = rw (here, sym start, sym rewrites) (Becomes-in_order contents failures first last begun reports)

  told_nothing : reports_of first ≡ false → new ≡ old
  told_nothing unasked = here ∙ ((reports.silent unasked).1 ∙ start)

-- A command was run for the arguments, and reported its progress only where they ask for it.
pub returns-in-Ok-clause-answer : goal.returns-in-Ok-clause-answer
returns-in-Ok-clause-answer g c = λ other. (
  c.run-done.result,
  c.errors-1.given.0,
  inl (c.in-Ok.request, c.in-Ok.ensures.request, c.in-Ok.ensures.taken, c.run-done.ensures.answer),
  written (c.in-Ok.request.progress) refl,
  c.finish.ensures.status,
  (
    folder_of c.in-Ok.request.task,
    c.run-done.new.why,
    inr (c.in-Ok.request, c.in-Ok.ensures.request, refl),
    subst (λ (path : Option (List ℕ)). ReportsAt g.E.Sink.contents g.E.Sink.failures path c.run-done.new.why c.errors-1.given.0 c.finish.new.errors c.run-done.result)
        c.folder_of-path.ensures c.finish.ensures.reported,
  ),
)
  where
    reports : Becomes g.E.Sink.contents g.E.Sink.failures c.new-progress.result c.clear.new.self
    reports = Becomes-joins g.E.Sink.contents g.E.Sink.failures c.new-progress.result c.run-done.new.progress c.clear.new.self c.run-done.ensures.written c.clear.ensures.reported

    here : c.errors-1.given.0 ≡ sink_of c.clear.new.self
    here = c.errors-1.given.1 (sym (reports.same ∙ c.new-progress.ensures.lent))

    written : (b : Bool) → c.in-Ok.request.progress ≡ b
        → ReportsProgress g.E.Sink.contents g.E.Sink.failures (map g.W.AsStr.text c.args.words.now) c.args.terminals.errors c.args.errors.now
        c.errors-1.given.0
    written true is =
        inr (
          c.in-Ok.request,
          c.in-Ok.ensures.request,
          is,
          told_in_order g.E.Sink.contents g.E.Sink.failures c.new-progress.result c.clear.new.self reports c.args.terminals.errors
              c.args.errors.now c.errors-1.given.0 c.new-progress.ensures.rewrites c.new-progress.ensures.sink here c.new-progress.ensures.new,
        )
    written false is =
        inl (told_nothing g.E.Sink.contents g.E.Sink.failures c.new-progress.result c.clear.new.self reports c.args.terminals.errors
        c.args.errors.now c.errors-1.given.0 c.new-progress.ensures.rewrites c.new-progress.ensures.sink here (c.new-progress.ensures.reports ∙ is))

-- There is room for a failure more.
pub finish-requires : goal.finish-requires
finish-requires g c =
    let here : c.errors-1.given.0 ≡ sink_of c.clear.new.self =
    c.errors-1.given.1 (sym (c.clear.ensures.reported.same ∙ (c.run-done.ensures.written.same ∙ c.new-progress.ensures.lent))) in
    rw here (c.clear.ensures.reported.reported.room (c.run-done.ensures.written.reported.room (rw c.new-progress.ensures.sink c.requires.errors)))
