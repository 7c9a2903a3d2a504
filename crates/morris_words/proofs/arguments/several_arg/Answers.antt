use Rattle.morris_words.proofs.ArgLaws.{with_help, with_range}
use Rattle.morris_words.proofs.arguments.several_arg.Goals as goal

pub returns : goal.returns
returns c =
    let ranged = with_range c.new.result c.num_args.result _ _ c.num_args.ensures.0 c.num_args.ensures.1 (c.new.ensures.rule, c.new.ensures.optional.1) in
    with_help c.num_args.result c.help.result _ _ c.help.ensures ranged
