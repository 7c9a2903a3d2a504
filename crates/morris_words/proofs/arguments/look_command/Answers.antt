use Rattle.std.proofs.Common.{subst, sym}
use Rattle.morris_words.specs.Words.{AreArgs, look_rules}
use Rattle.morris_words.proofs.arguments.look_command.Goals as goal

pub returns : goal.returns
returns c =
    c.command_of.ensures look_rules
    (subst (AreArgs look_rules) (sym c.in_ok-args.ensures.items) (c.required_arg.ensures, (c.required_arg-2.ensures, (c.depth_arg.ensures, tt))))
