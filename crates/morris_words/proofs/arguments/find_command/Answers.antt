use Rattle.std.proofs.Common.{subst, sym}
use Rattle.morris_words.specs.Words.{AreArgs, find_rules}
use Rattle.morris_words.proofs.arguments.find_command.Goals as goal

pub returns : goal.returns
returns c =
    c.command_of.ensures find_rules
    (subst (AreArgs find_rules) (sym c.in_ok-args.ensures.items) (c.required_arg.ensures, (c.required_arg-2.ensures, (c.required_arg-3.ensures, (c.required_option_arg.ensures, (c.flag_arg.ensures, (c.limit_arg.ensures, (c.flag_arg-2.ensures, tt))))))))
