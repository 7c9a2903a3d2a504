use Rattle.std.proofs.Common.{◌∙◌, sym, arith}
use Rattle.morris_index.proofs.IndexLaws.{placed, index-same}
use Rattle.morris_index.proofs.Following.{next_in_pair, next_is_of}
use Rattle.morris_index.proofs.pair.Pair.next_position.Goals as goal

pub returns-in-Some-clause-index : goal.returns-in-Some-clause-index
returns-in-Some-clause-index g c =
    next_in_pair g.B.Geometry.POINTS c.args.self.now c.args.before.now c.in-Some.next c.in-Some.ensures.own c.in-Some.ensures.index ∙ c.requires.before

pub returns-in-Some-clause-alone : goal.returns-in-Some-clause-alone
returns-in-Some-clause-alone g c = λ s h of e.
    index-same g.B.Geometry.POINTS c.args.self.now (omega (arith, g.met.B.Geometry.few)) c.in-Some.next s
    (placed g.B.Geometry.shape g.B.Geometry.POINTS c.in-Some.next g.met.B.Geometry.point_count c.in-Some.ensures.lawful)
    (placed g.B.Geometry.shape g.B.Geometry.POINTS s g.met.B.Geometry.point_count h)
    (next_is_of c.args.self.now c.args.before.now c.in-Some.next c.in-Some.ensures.own c.in-Some.ensures.other c.requires.counts) of
    (returns-in-Some-clause-index g c ∙ sym e)
