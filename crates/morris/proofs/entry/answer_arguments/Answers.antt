-- The arguments are those that the system gave, and the exit status is that of the command.
use Rattle.std.proofs.Common.{ℕ, Bool, None, Option, ◌≡◌, ◌∙◌, ap, inl, inr, List, map, refl, subst, sym, Result, Ok, Err, string_bytes}
use Rattle.std.specs.Prelude.{IfOk}
use Rattle.std.proofs.KnownBytes.{Keeps-refl}
use Rattle.clap.specs.Words.{Text}
use Rattle.morris.specs.Command.{AsksToRead, Ends, HasMistake, NamesFolder, ReportsProgress, texts_of}
use Rattle.morris_jobs.specs.Inputs.{Input, input_of}
use Rattle.morris_words.specs.Words.{faults_of, named_by}
use Rattle.morris_jobs.specs.declared.fault.Fault.{Fault}
use Rattle.morris_jobs.specs.declared.fault.Fault.TheVariants as fault
use Rattle.morris.proofs.entry.answer_arguments.Goals as goal

of_ok : {T E : Type 0} (r : Result T E) (x : T) (P : T → Type 0) → r ≡ Ok x → P x → IfOk r P
of_ok r x P is holds = subst (λ w. IfOk w P) (sym is) holds

pub returns-in-Ok-list_of-clause-mistaken : goal.returns-in-Ok-list_of-clause-mistaken
returns-in-Ok-list_of-clause-mistaken g c =
    let same = ap (map string_bytes) (c.as_slice-words.ensures.value ∙ c.in-Ok-list_of.ensures) in
    of_ok c.args.words c.in-Ok.words _ c.in-Ok.is
    (λ two. subst (λ (t : List Text). HasMistake (faults_of t)) same (c.command_at-status.ensures.mistaken (sym c.from.ensures ∙ two)))

pub returns-in-Ok-list_of-clause-unread : goal.returns-in-Ok-list_of-clause-unread
returns-in-Ok-list_of-clause-unread g c =
    let same = ap (map string_bytes) (c.as_slice-words.ensures.value ∙ c.in-Ok-list_of.ensures) in
    of_ok c.args.words c.in-Ok.words _ c.in-Ok.is
    (λ unasked. c.command_at-status.ensures.unread (λ asks. unasked (subst (λ (t : List Text). AsksToRead (named_by t)) same asks)))

same_end : (on_terminal : Bool) (given words : List Text) (before after : Input) (old new : Option (List ℕ)) (answer : Result (Unit {0}) Fault)
    → given ≡ words → Ends on_terminal given before after old new answer → Ends on_terminal words before after old new answer
same_end on_terminal given words before after old new answer same ended = subst (λ (t : List Text). Ends on_terminal t before after old new answer) same ended

pub returns-in-Ok-list_of-clause-answer : goal.returns-in-Ok-list_of-clause-answer
returns-in-Ok-list_of-clause-answer g c =
    let same = ap (map string_bytes) (c.as_slice-words.ensures.value ∙ c.in-Ok-list_of.ensures) in
    let before = input_of (g.I.Source.remaining c.args.input.now) (g.I.Source.failures c.args.input.now) in
    let after = input_of (g.I.Source.remaining c.command_at-status.new.input) (g.I.Source.failures c.command_at-status.new.input) in
    let old = g.O.Sink.contents c.args.output.now in
    let new = g.O.Sink.contents c.command_at-status.new.output in
    of_ok c.args.words c.in-Ok.words _ c.in-Ok.is
    (λ other.
    let ended = c.command_at-status.ensures.answer (λ two. other (c.from.ensures ∙ two)) in (
      ended.0,
      ended.1,
      same_end c.args.terminals.output (map string_bytes c.as_slice-words.result.now) (texts_of c.in-Ok.words) before after old new ended.0 same ended.2,
      subst (λ (t : List Text). ReportsProgress g.E.Sink.contents g.E.Sink.failures t c.args.terminals.errors c.args.errors.now ended.1) same ended.3,
      c.from.ensures ∙ ended.4,
      (ended.5.0, ended.5.1, subst (λ (t : List Text). NamesFolder t ended.5.0) same ended.5.2, ended.5.3),
    ))

-- Memory for the list was refused: nothing was read and nothing printed.
pub returns-in-Err-list_of-clause-answer : goal.returns-in-Err-list_of-clause-answer
returns-in-Err-list_of-clause-answer g c =
    of_ok c.args.words c.in-Ok.words _ c.in-Ok.is
    (λ other. (
      Err fault.Memory,
      c.args.errors.now,
      inr (inr (refl, refl, Keeps-refl (g.O.Sink.contents c.args.output.now))),
      inl refl,
      c.from-in-Err-list_of.ensures ∙ c.refuse_arguments.ensures.status,
      (None, None, inl refl, c.refuse_arguments.ensures.reported refl),
    ))
