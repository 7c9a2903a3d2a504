use Rattle.std.proofs.Common.{subst, sym}
use Rattle.morris_words.specs.Words.{AreArgs, stats_rules}
use Rattle.morris_words.proofs.arguments.stats_command.Goals as goal

pub returns : goal.returns
returns c =
    c.command_of.ensures stats_rules
    (subst (AreArgs stats_rules) (sym c.in_ok-args.ensures.items) (c.required_arg.ensures, (c.required_arg-2.ensures, (c.flag_arg.ensures, (c.workers_arg.ensures, (c.blocks_arg.ensures, (c.flag_arg-2.ensures, (c.option_arg.ensures, (c.flag_arg-3.ensures, (c.flag_arg-4.ensures, tt))))))))))
