use Rattle.morris_words.proofs.ArgLaws.{with_help, with_long, with_value_name}
use Rattle.morris_words.proofs.arguments.option_arg.Goals as goal

pub returns : goal.returns
returns c =
    let named = with_long c.new.result c.long.result _ _ c.long.ensures (c.new.ensures.rule, c.new.ensures.optional.1) in
    let value = with_value_name c.long.result c.value_name.result _ _ c.value_name.ensures named in
    with_help c.value_name.result c.help.result _ _ c.help.ensures value
