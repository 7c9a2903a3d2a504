use Rattle.std.proofs.Common.{ap}
use Rattle.std.specs.Option.{option_map}
use Rattle.morris_game_tests.proofs.MemoryLaws.{others_kept, this_put}
use Rattle.morris_game_tests.proofs.memory.MemoryFolder.take_away.Goals as goal

pub returns-clause-gone : goal.returns-clause-gone
returns-clause-gone c = ap (option_map (λ bytes. bytes.items)) (this_put _ c.args.self.now.files c.remove.new.self _ c.remove.ensures.updates)

pub returns-clause-others : goal.returns-clause-others
returns-clause-others c = λ other ne. ap (option_map (λ bytes. bytes.items)) (others_kept _ c.args.self.now.files c.remove.new.self _ c.remove.ensures.updates other ne)
