use Rattle.std.proofs.Common.{arith}
use Rattle.morris_index.specs.Numbering.{half_size}
use Rattle.morris_index.proofs.IndexLaws.{half_size-few}
use Rattle.morris_index.proofs.halves.half_size.Goals as goal

pub returns-clause-value : goal.returns-clause-value
unfolding half_size
returns-clause-value g c = rw (c.binomial.ensures.value, c.binomial-2.ensures.value, c.POINTS.ensures, c.POINTS-2.ensures)

pub returns-clause-few : goal.returns-clause-few
returns-clause-few g c =
    rw (returns-clause-value g c)
    (half_size-few g.B.Geometry.POINTS c.args.own c.args.other (omega (arith, g.met.B.Geometry.few)) c.requires)
