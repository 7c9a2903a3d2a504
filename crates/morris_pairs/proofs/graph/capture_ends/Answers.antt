use Rattle.std.proofs.Common.{◌≡◌, ◌<◌, ◌&&◌, not, sym, ap, inl, inr, ◌∙◌, arith}
use Rattle.std.proofs.lemmas.Bool.{cases_eq, eqb-true, eqb-false}
use Rattle.morris_board.specs.Sets.{has, count_of}
use Rattle.morris_board.proofs.PositionLaws.{other_count}
use Rattle.morris_pairs.specs.CaptureCaches.{open_ends}
use Rattle.morris_pairs.proofs.CaptureLaws.{captures_none, captures_some, ends_of, no_codes, wins_at_once}
use Rattle.morris_pairs.proofs.graph.capture_ends.Given as given
use Rattle.morris_pairs.proofs.graph.capture_ends.Goals as goal
use Rattle.morris_pairs.proofs.graph.capture_ends.Goals.{After-difference-ends}

is : (g : given.Over) (c : After-difference-ends g) → c.difference-ends.result ≡ open_ends g.B.Geometry.shape c.args.position.now.own c.args.position.now.other
is g c =
    ends_of g.B.Geometry.shape g.B.Geometry.POINTS g.met.B.Geometry.point_count g.met.B.Geometry.few c.args.position.now c.requires.lawful c.difference-ends.result
    (λ v. c.difference-ends.ensures v ∙ ap (λ o. has c.args.closing v && not (has o v)) c.other-other.ensures.points ∙ c.requires.closing v)

pub returns-then-eq-clause-known : goal.returns-then-eq-clause-known
returns-then-eq-clause-known g c =
    no_codes g.B.Geometry.shape c.args.position.now
    (captures_none g.B.Geometry.shape g.B.Geometry.POINTS g.met.B.Geometry.point_count g.met.B.Geometry.few c.args.position.now c.requires.lawful
    (sym (is g (goal.at.returns-then-eq-clause-known g c).After-difference-ends) ∙ eqb-true c.difference-ends.result 0 (sym c.eq.ensures ∙ c.if-eq.true)))

pub returns-then-count-eq3-clause-known : goal.returns-then-count-eq3-clause-known
returns-then-count-eq3-clause-known g c =
    let some : 0 < open_ends g.B.Geometry.shape c.args.position.now.own c.args.position.now.other = elim (cases_eq c.difference-ends.result 0) [
      | inl e ↦ absurd (eqb-false c.difference-ends.result 0 (sym c.eq.ensures ∙ c.if-eq.false) e)
      | inr d ↦ omega (arith, is g (goal.at.returns-then-count-eq3-clause-known g c).After-difference-ends, d)
    ] in
    wins_at_once g.B.Geometry.shape c.args.position.now (omega (arith, g.met.B.Geometry.point_count, g.met.B.Geometry.few)) c.requires.lawful
    (rw (← c.other-other.ensures.points) (sym c.count.ensures.value ∙ c.if-count-eq3.true))
    (captures_some g.B.Geometry.shape g.B.Geometry.POINTS g.met.B.Geometry.point_count g.met.B.Geometry.few c.args.position.now c.requires.lawful some)

pub returns-clause-ends : goal.returns-clause-ends
returns-clause-ends g c = is g (goal.at.returns-clause-ends g c).After-difference-ends

pub returns-clause-above : goal.returns-clause-above
returns-clause-above g c =
    omega (arith, c.if-count-eq3.false, c.count.ensures.value, ap count_of c.other-other.ensures.points, other_count c.args.position.now c.requires.lawful.sized)
