use Rattle.std.proofs.Common.{◌∙◌, sym, arith}
use Rattle.morris_index.proofs.ClassPairLaws.{canonical_alone, next_canonical, next_entry}
use Rattle.morris_index.proofs.Following.{next_is_of}
use Rattle.morris_index.proofs.class_pair.ClassPair.next_position.Goals as goal

pub returns-in-Some-clause-index : goal.returns-in-Some-clause-index
returns-in-Some-clause-index g c =
    next_entry g.B.Geometry.shape g.B.Geometry.POINTS (omega (arith, g.met.B.Geometry.few)) g.met.B.Geometry.point_count g.met.B.Geometry.has_symmetries
    c.args.before.now c.in-Some.next c.own.ensures.lawful c.in-Some.ensures.lawful c.requires.own c.in-Some.ensures.own c.in-Some.ensures.other c.in-Some.ensures.index c.args.self.now
    ∙ c.requires.before

pub returns-in-Some-clause-canonical_form : goal.returns-in-Some-clause-canonical_form
returns-in-Some-clause-canonical_form g c = λ s h of e.
    sym (next_canonical g.B.Geometry.shape g.B.Geometry.POINTS (omega (arith, g.met.B.Geometry.few)) g.met.B.Geometry.point_count g.met.B.Geometry.has_symmetries
    c.args.before.now c.in-Some.next c.own.ensures.lawful c.in-Some.ensures.lawful c.requires.own c.in-Some.ensures.own c.in-Some.ensures.other c.in-Some.ensures.index)
    ∙ canonical_alone g.B.Geometry.shape g.B.Geometry.POINTS (omega (arith, g.met.B.Geometry.few)) g.met.B.Geometry.point_count g.met.B.Geometry.has_symmetries c.args.self.now c.in-Some.next s c.in-Some.ensures.lawful h
    (next_is_of c.args.self.now c.args.before.now c.in-Some.next c.in-Some.ensures.own c.in-Some.ensures.other c.requires.counts) of
    (returns-in-Some-clause-index g c ∙ sym e)

pub returns-in-Some-clause-own : goal.returns-in-Some-clause-own
returns-in-Some-clause-own g c = rw c.in-Some.ensures.own c.requires.own
