use Rattle.std.proofs.Common.{codes}
use Rattle.morris_words.specs.Words.{build_rules, command_app, find_rules, look_rules, lookup_rules, morris_app, probe_rules, program, stats_rules, verify_rules}
use Rattle.morris_words.proofs.arguments.morris_command.Goals as goal

pub returns : goal.returns
unfolding morris_app
returns c =
    let one = c.with_command-program.ensures program (command_app (codes "look") look_rules) c.bare_program.ensures c.look_command.ensures in
    let two = c.with_command-program-2.ensures _ (command_app (codes "stats") stats_rules) one c.stats_command.ensures in
    let three = c.with_command-program-3.ensures _ (command_app (codes "build") build_rules) two c.build_command.ensures in
    let four = c.with_command-program-4.ensures _ (command_app (codes "verify") verify_rules) three c.verify_command.ensures in
    let five = c.with_command-program-5.ensures _ (command_app (codes "probe") probe_rules) four c.probe_command.ensures in
    let six = c.with_command-program-6.ensures _ (command_app (codes "lookup") lookup_rules) five c.lookup_command.ensures in
    c.with_command.ensures _ (command_app (codes "find") find_rules) six c.find_command.ensures
