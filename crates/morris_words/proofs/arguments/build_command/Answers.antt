use Rattle.std.proofs.Common.{subst, sym}
use Rattle.morris_words.specs.Words.{AreArgs, build_rules}
use Rattle.morris_words.proofs.arguments.build_command.Goals as goal

pub returns : goal.returns
returns c =
    c.command_of.ensures build_rules
    (subst (AreArgs build_rules) (sym c.in_ok-args.ensures.items) (c.required_arg.ensures, (c.required_arg-2.ensures, (c.workers_arg.ensures, (c.blocks_arg.ensures, (c.flag_arg.ensures, (c.option_arg.ensures, (c.flag_arg-2.ensures, (c.flag_arg-3.ensures, tt)))))))))
