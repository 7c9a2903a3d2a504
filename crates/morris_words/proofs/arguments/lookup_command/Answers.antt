use Rattle.std.proofs.Common.{subst, sym}
use Rattle.morris_words.specs.Words.{AreArgs, lookup_rules}
use Rattle.morris_words.proofs.arguments.lookup_command.Goals as goal

pub returns : goal.returns
returns c =
    c.command_of.ensures lookup_rules
    (subst (AreArgs lookup_rules) (sym c.in_ok-args.ensures.items) (c.required_arg.ensures, (c.required_option_arg.ensures, (c.flag_arg.ensures, (c.flag_arg-2.ensures, (c.flag_arg-3.ensures, (c.several_arg.ensures, tt)))))))
