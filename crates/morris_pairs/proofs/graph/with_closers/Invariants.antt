use Rattle.std.proofs.Common.{◌≡◌, ℕ, ◌++◌, Some, map}
use Rattle.morris_board.specs.Sets.{members}
use Rattle.morris_moves.specs.Rules.{move}
use Rattle.morris_pairs.specs.Captured.{IsLeft}
use Rattle.morris_pairs.proofs.CaptureLaws.{GoesOn}
use Rattle.morris_pairs.proofs.graph.with_closers.Given as goal

abbrev pub invariant-loop-from : goal.invariant-loop-from
invariant-loop-from g l = record {
  points : l.yielded ++ members l.from-iterator ≡ members l.fn.closers;
  summed : (taken : ℕ) → IsLeft g.B.Geometry.shape g.B.Geometry.POINTS l.position l.table taken l.standing
      → GoesOn g.B.Geometry.shape l.position l.fn.known l.exits (map (λ u. move u l.to (Some taken)) l.yielded);
}
