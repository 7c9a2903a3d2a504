use Rattle.std.proofs.Common.{◌∙◌, ap₂, sym}
use Rattle.std.proofs.lemmas.Result.{IfOk-weaker}
use Rattle.std.specs.Option.{option_zip}
use Rattle.morris_words.proofs.ReadLaws.{with_command}
use Rattle.morris_words.proofs.arguments.with_command.Goals as goal

pub returns : goal.returns
returns c before added was is =
    let both = ap₂ option_zip (sym c.ok.ensures.value) (sym c.ok-2.ensures.value) ∙ (sym c.zip.ensures ∙ c.in-Some.is) in
    IfOk-weaker c.subcommand.result _ _ (λ r h. with_command c.args.program c.args.command _ r before added was is both h) c.subcommand.ensures

pub returns-in_default : goal.returns-in_default
returns-in_default c before added was is = tt
