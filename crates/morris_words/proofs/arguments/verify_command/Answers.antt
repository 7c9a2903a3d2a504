use Rattle.std.proofs.Common.{subst, sym}
use Rattle.morris_words.specs.Words.{AreArgs, verify_rules}
use Rattle.morris_words.proofs.arguments.verify_command.Goals as goal

pub returns : goal.returns
returns c =
    c.command_of.ensures verify_rules
    (subst (AreArgs verify_rules) (sym c.in_ok-args.ensures.items) (c.required_arg.ensures, (c.flag_arg.ensures, (c.option_arg.ensures, (c.workers_arg.ensures, (c.flag_arg-2.ensures, tt))))))
