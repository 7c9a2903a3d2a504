use Rattle.morris_index.proofs.Highest.{IsHighest}
use Rattle.morris_index.proofs.binomials.highest_point.Given as goal

abbrev pub invariant-loop-n : goal.invariant-loop-n
invariant-loop-n l = IsHighest l.k l.rank l.n l.point
