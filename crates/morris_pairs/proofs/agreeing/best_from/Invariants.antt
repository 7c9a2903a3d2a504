use Rattle.std.proofs.Common.{◌≡◌, ◌++◌}
use Rattle.morris_board.specs.Sets.{members}
use Rattle.morris_moves.specs.Rules.{reach}
use Rattle.morris_pairs.specs.Scores.{best_of}
use Rattle.morris_pairs.proofs.AgreementLaws.{codes_to}
use Rattle.morris_pairs.proofs.agreeing.best_from.Given as goal

abbrev pub invariant-loop-to : goal.invariant-loop-to
invariant-loop-to g l = record {
  points : l.yielded ++ members l.to-iterator ≡ members (reach g.B.Geometry.shape l.position l.from);
  best : l.best ≡ best_of l.fn.known (codes_to g.B.Geometry.shape l.raw l.position l.from l.yielded);
}
