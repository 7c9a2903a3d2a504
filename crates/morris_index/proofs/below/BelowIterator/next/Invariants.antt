use Rattle.std.proofs.Common.{◌≡◌, ◌-◌}
use Rattle.morris_index.specs.Pairs.{below_from}
use Rattle.morris_index.proofs.below.BelowIterator.next.Given as goal

abbrev pub invariant-loop-self : goal.invariant-loop-self
invariant-loop-self g l = below_from l.self-inside.pair l.self-inside.place ≡ l.fn.self

abbrev pub decreases-loop-self : goal.decreases-loop-self
decreases-loop-self g l = 28 - l.self-inside.place
