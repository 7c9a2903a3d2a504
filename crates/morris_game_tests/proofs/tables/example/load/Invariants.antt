use Rattle.std.proofs.Common.{◌≡◌}
use Rattle.morris_game_tests.proofs.tables.example.load.Given as goal

-- no read has failed
abbrev pub invariant-loop : goal.invariant-loop
invariant-loop l = record { unfailed : l.source.failures ≡ 0 }
