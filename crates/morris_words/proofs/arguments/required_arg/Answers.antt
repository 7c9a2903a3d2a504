use Rattle.morris_words.proofs.ArgLaws.{with_help, with_required}
use Rattle.morris_words.proofs.arguments.required_arg.Goals as goal

pub returns : goal.returns
returns c =
    let required = with_required c.new.result c.required.result _ _ c.required.ensures (c.new.ensures.rule, c.new.ensures.optional.1) in
    with_help c.required.result c.help.result _ _ c.help.ensures required
