use Rattle.morris_words.proofs.ArgLaws.{with_action, with_help, with_long}
use Rattle.morris_words.proofs.arguments.flag_arg.Goals as goal

pub returns : goal.returns
returns c =
    let named = with_long c.new.result c.long.result _ _ c.long.ensures (c.new.ensures.rule, c.new.ensures.optional.1) in
    let set = with_action c.long.result c.action.result _ _ c.action.ensures named in
    with_help c.action.result c.help.result _ _ c.help.ensures set
