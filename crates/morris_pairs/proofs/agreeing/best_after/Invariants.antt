use Rattle.std.proofs.Common.{◌≡◌, ◌++◌}
use Rattle.morris_board.specs.Sets.{members}
use Rattle.morris_pairs.specs.Scores.{best_of, score_of}
use Rattle.morris_pairs.proofs.AgreementLaws.{codes_by}
use Rattle.morris_pairs.proofs.agreeing.best_after.Given as goal

abbrev pub invariant-loop-from : goal.invariant-loop-from
invariant-loop-from g l = record {
  points : l.yielded ++ members l.from-iterator ≡ members l.position.own;
  best : l.best ≡ best_of (score_of l.fn.captures) (codes_by g.B.Geometry.shape l.raw l.position l.yielded);
}
