use Rattle.std.proofs.Common.{subst, sym}
use Rattle.morris_words.specs.Words.{AreArgs, probe_rules}
use Rattle.morris_words.proofs.arguments.probe_command.Goals as goal

pub returns : goal.returns
returns c =
    c.command_of.ensures probe_rules
    (subst (AreArgs probe_rules) (sym c.in_ok-args.ensures.items) (c.required_arg.ensures, (c.required_arg-2.ensures, (c.flag_arg.ensures, tt))))
