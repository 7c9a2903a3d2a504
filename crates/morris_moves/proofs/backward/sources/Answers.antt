use Rattle.std.proofs.Common.{◌≡◌, ◌<◌, ◌≤◌, true, false, sym, ap, ◌∙◌, arith}
use Rattle.morris_board.specs.Sets.{count_of}
use Rattle.morris_board.proofs.SetLaws.{point_lt}
use Rattle.morris_moves.specs.Rules.{in_mill}
use Rattle.morris_moves.proofs.MaskLaws.{IsSteps, steps-known}
use Rattle.morris_moves.proofs.BackLaws.{sources-none, sources-steps, sources-complete}
use Rattle.morris_moves.proofs.backward.sources.Given as given
use Rattle.morris_moves.proofs.backward.sources.Goals as goal
use Rattle.morris_moves.proofs.backward.sources.Goals.{After-other-other}

small : (g : given.Over) → g.B.Geometry.shape.points ≤ 24
small g = omega (arith, g.met.B.Geometry.few, g.met.B.Geometry.point_count)

end : (g : given.Over) (c : After-other-other g) → c.args.to < g.B.Geometry.POINTS
end g c =
    omega (
      arith,
      g.met.B.Geometry.point_count,
      point_lt c.args.position.now.other g.B.Geometry.shape.points c.args.to c.other-other.ensures.lawful.stones.other_within c.requires,
    )

pub in_mill-requires : goal.in_mill-requires
in_mill-requires g c = end g (goal.at.in_mill-requires g c).After-other-other

pub steps-requires : goal.steps-requires
steps-requires g c = end g (goal.at.steps-requires g c).After-other-other

pub returns-then-in_mill-clause-come : goal.returns-then-in_mill-clause-come
returns-then-in_mill-clause-come g c =
    let mill : in_mill g.B.Geometry.shape c.args.position.now.other c.args.to ≡ true =
    ap (λ s. in_mill g.B.Geometry.shape s c.args.to) (sym c.other-other.ensures.points) ∙ (sym c.in_mill.ensures ∙ c.if-in_mill.true) in
    λ u. rw (← g.met.B.Geometry.point_count)
    (sources-none g.B.Geometry.shape (small g) c.args.position.now c.other-other.ensures.lawful c.args.to c.requires mill u)

pub returns-then-in_mill-clause-complete : goal.returns-then-in_mill-clause-complete
returns-then-in_mill-clause-complete g c =
    sources-complete g.B.Geometry.shape (small g) c.args.position.now c.other-other.ensures.lawful g.B.Geometry.POINTS g.met.B.Geometry.point_count c.args.to _
    (returns-then-in_mill-clause-come g c)

pub returns-clause-come : goal.returns-clause-come
returns-clause-come g c =
    let mill : in_mill g.B.Geometry.shape c.args.position.now.other c.args.to ≡ false =
    ap (λ s. in_mill g.B.Geometry.shape s c.args.to) (sym c.other-other.ensures.points) ∙ (sym c.in_mill.ensures ∙ c.if-in_mill.false) in
    let stones : c.count.result ≡ count_of c.args.position.now.other = c.count.ensures.value ∙ ap count_of c.other-other.ensures.points in
    let near : IsSteps g.B.Geometry.shape (count_of c.args.position.now.other) c.args.to c.steps.result =
    steps-known g.B.Geometry.shape g.B.Geometry.POINTS (count_of c.args.position.now.other) c.args.to c.steps.result g.met.B.Geometry.point_count
    (rw (← stones) c.steps.ensures) in
    λ u. rw (← g.met.B.Geometry.point_count)
    (sources-steps g.B.Geometry.shape (small g) c.args.position.now c.other-other.ensures.lawful c.args.to c.requires mill c.steps.result c.vacant.result
    c.intersection.result near (λ p. rw g.met.B.Geometry.point_count (c.vacant.ensures p)) c.intersection.ensures u)

pub returns-clause-complete : goal.returns-clause-complete
returns-clause-complete g c =
    sources-complete g.B.Geometry.shape (small g) c.args.position.now c.other-other.ensures.lawful g.B.Geometry.POINTS g.met.B.Geometry.point_count c.args.to _
    (returns-clause-come g c)
