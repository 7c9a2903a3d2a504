use Rattle.std.proofs.Common.{◌∙◌, ap}
use Rattle.std.proofs.lemmas.Result.{IfOk-weaker}
use Rattle.clap.specs.Simple.{app_of_fields}
use Rattle.clap.specs.Words.{new_app}
use Rattle.clap.specs.declared.builder.command.Command.{Command}
use Rattle.clap.specs.declared.builder.command.Command.TheOpen.{Command-F}
use Rattle.morris_words.specs.Words.{Is, command_app}
use Rattle.morris_words.proofs.ReadLaws.{with_args}
use Rattle.morris_words.proofs.arguments.command_of.Goals as goal

pub returns : goal.returns
unfolding command_app
returns c rules are =
    let app = ap app_of_fields c.after_help.ensures ∙ (ap app_of_fields c.about.ensures ∙ c.new.ensures.app) in
    let local = ap (λ (f : Command-F Command). f.has_globals) c.after_help.ensures
    ∙ (ap (λ (f : Command-F Command). f.has_globals) c.about.ensures ∙ c.new.ensures.local) in
    let bare : Is (new_app c.args.name.now) c.after_help.result = (app, local) in
    IfOk-weaker c.args-2.result _ _ (λ r h. with_args c.args.args.items rules c.after_help.result r _ bare are h) c.args-2.ensures
