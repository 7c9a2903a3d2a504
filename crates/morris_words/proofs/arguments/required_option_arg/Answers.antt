use Rattle.morris_words.proofs.ArgLaws.{with_required}
use Rattle.morris_words.proofs.arguments.required_option_arg.Goals as goal

pub returns : goal.returns
returns c = with_required c.option_arg.result c.required.result _ _ c.required.ensures c.option_arg.ensures
