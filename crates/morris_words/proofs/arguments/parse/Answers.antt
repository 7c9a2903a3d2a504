use Rattle.std.proofs.Common.{◌≡◌, ◌∙◌, ap, refl, subst, map, true}
use Rattle.std.proofs.lemmas.Result.{IfOk-weaker}
use Rattle.clap.specs.Words.{App, FailsBy, fault_of, is_simple, is_simple_and_free, subcommand_of}
use Rattle.morris_words.specs.Words.{command_app, morris_app}
use Rattle.morris_words.proofs.arguments.parse.Goals as goal

is_free : is_simple_and_free morris_app ≡ true
unfolding morris_app command_app
is_free = refl

is_known : is_simple morris_app ≡ true
unfolding morris_app command_app
is_known = refl

pub returns-clause-kinds : goal.returns-clause-kinds
returns-clause-kinds g c =
    let made = c.in_ok-morris_command.ensures in
    let arguments = map g.S.AsStr.text c.args.arguments.now in
    let parse = c.try_get_matches_from in
    subst (λ (a : App). FailsBy (fault_of a arguments) parse.result) made (parse.ensures.kinds (ap is_simple_and_free made ∙ is_free))

pub returns-clause-matches : goal.returns-clause-matches
returns-clause-matches g c =
    let made = c.in_ok-morris_command.ensures in
    let arguments = map g.S.AsStr.text c.args.arguments.now in
    let parse = c.try_get_matches_from in
    IfOk-weaker parse.result _ _ (λ m h. (h (ap is_simple made ∙ is_known)).1 ∙ ap (λ (a : App). subcommand_of a arguments) made) parse.ensures.matches
