-- The name is that of the string that was made of it.
use Rattle.std.proofs.Common.{ap, ◌∙◌}
use Rattle.std.specs.Option.{option_map}
use Rattle.morris_game_tests.proofs.MemoryLaws.{others_kept}
use Rattle.morris_game_tests.proofs.memory.MemoryFolder.keep.Goals as goal

pub returns-in-Ok-clause-others : goal.returns-in-Ok-clause-others
returns-in-Ok-clause-others c = λ other ne. ap (option_map (λ bytes. bytes.items)) (others_kept _ c.args.self.now.files c.insert.new.self _ c.in-Ok.ensures.updates other (λ same. ne (same ∙ c.in_ok-name.ensures.ok)))
