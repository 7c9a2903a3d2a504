use Rattle.morris_index.proofs.BelowLaws.{length-below_of, below_of-last, below_of-needs_first}
use Rattle.morris_index.proofs.pair.Pair.below.Goals as goal

pub returns-clause-few : goal.returns-clause-few
returns-clause-few g c = length-below_of c.args.self.now

pub returns-clause-last : goal.returns-clause-last
returns-clause-last g c = rw (← c.self.view_is) (below_of-last g.B.Geometry.POINTS _ c.self.invariant)

pub returns-clause-needs_first : goal.returns-clause-needs_first
returns-clause-needs_first g c = rw (← c.self.view_is) (below_of-needs_first g.B.Geometry.POINTS _ c.self.invariant)
