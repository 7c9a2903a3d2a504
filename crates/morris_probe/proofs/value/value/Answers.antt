use Rattle.std.proofs.Common.{◌≤◌, sym, subst, ◌∙◌, arith}
use Rattle.morris_index.specs.Pairs.{IsPair}
use Rattle.morris_probe.proofs.ProbingLaws.{lost_with_two, no_moves_with_two, results_there}
use Rattle.morris_probe.proofs.value.value.Goals as goal

pub returns-in-None-clause-value : goal.returns-in-None-clause-value
returns-in-None-clause-value g c = lost_with_two g.B.Geometry.shape c.args.position.now (sym c.of.ensures.pair ∙ c.in-None.is)

pub returns-in-None-clause-results : goal.returns-in-None-clause-results
returns-in-None-clause-results g c = λ m listed.
    absurd (no_moves_with_two g.B.Geometry.shape c.args.position.now m (sym c.of.ensures.pair ∙ c.in-None.is) listed)

pub returns-in-Some-get-clause-results : goal.returns-in-Some-get-clause-results
returns-in-Some-get-clause-results g c =
    let few : g.B.Geometry.shape.points ≤ 24 = omega (arith, g.met.B.Geometry.point_count, g.met.B.Geometry.few) in
    let exact = c.in-Some-get.ensures.exact in
    results_there g.B.Geometry.shape few c.args.shelf.now c.in-Some.pair (subst (IsPair g.B.Geometry.shape.points) exact.0 exact.1.lawful)
    c.in-Some-get.ensures.below c.args.position.now c.own.ensures.lawful c.in-Some.ensures.counts
