-- The stone is one of the opponent's.
use Rattle.std.proofs.Common.{◌≡◌, ◌<◌, suc, ◌∙◌, sym, ap, subst, arith}
use Rattle.std.proofs.Math.Nat.{pow-le-pow_right}
use Rattle.morris_board.specs.Sets.{count_of, without_point}
use Rattle.morris_board.proofs.PointsLaws.{count_of-without}
use Rattle.morris_board.proofs.SetLaws.{point_lt, without_point-lt}
use Rattle.morris_board.proofs.PositionLaws.{other_count}
use Rattle.morris_index.specs.Classes.{representative_of}
use Rattle.morris_index.specs.Parts.{squeeze_below}
use Rattle.morris_index.specs.Standings.{IsCanonicalStanding}
use Rattle.morris_index.proofs.class_pair.ClassPair.elsewhere.Given as given
use Rattle.morris_index.proofs.class_pair.ClassPair.elsewhere.Goals as goal
use Rattle.morris_index.proofs.class_pair.ClassPair.elsewhere.Goals.{After-other, After-own}

low : (g : given.Over) (c : After-other g) → c.args.point < 32
low g c =
    omega (
      arith,
      point_lt c.args.position.now.other g.B.Geometry.shape.points c.args.point c.other.ensures.lawful.stones.other_within c.requires.stone,
      g.met.B.Geometry.point_count,
      g.met.B.Geometry.few,
    )

rest_is : (g : given.Over) (c : After-own g) → c.without-rest.result ≡ without_point c.args.position.now.other c.args.point
rest_is g c = c.without-rest.ensures ∙ ap (λ x. without_point x c.args.point) c.other.ensures.points

counted : (g : given.Over) (c : After-own g) → count_of c.args.position.now.other ≡ suc (count_of c.without-rest.result)
counted g c =
    count_of-without c.args.position.now.other c.args.point
    (omega (
      arith,
      point_lt c.args.position.now.other g.B.Geometry.shape.points c.args.point c.other.ensures.lawful.stones.other_within c.requires.stone,
      g.met.B.Geometry.point_count,
      g.met.B.Geometry.few,
    )) c.requires.stone
    ∙ ap (λ x. suc (count_of x)) (sym (rest_is g c))

pub without-rest-requires : goal.without-rest-requires
without-rest-requires g c = low g (goal.at.without-rest-requires g c).After-other

pub numbers_outside-numbers-requires-clause-board : goal.numbers_outside-numbers-requires-clause-board
numbers_outside-numbers-requires-clause-board g c =
    omega (
      arith,
      rest_is g (goal.at.numbers_outside-numbers-requires-clause-board g c).After-own,
      without_point-lt c.args.position.now.other g.B.Geometry.shape.points c.args.point c.other.ensures.lawful.stones.other_within,
      pow-le-pow_right {n = 2} (omega arith) {i = g.B.Geometry.shape.points} {j = 24} (omega (arith, g.met.B.Geometry.point_count, g.met.B.Geometry.few)),
    )

pub numbers_outside-numbers-requires-clause-few : goal.numbers_outside-numbers-requires-clause-few
numbers_outside-numbers-requires-clause-few g c =
    omega (
      arith,
      counted g (goal.at.numbers_outside-numbers-requires-clause-few g c).After-own,
      other_count c.args.position.now c.other.ensures.lawful.sized,
    )

pub invariant_of-result : goal.invariant_of-result
invariant_of-result g c =
    let more = counted g (goal.at.invariant_of-result g c).After-own in
    let rows : c.numbers_outside-numbers.result.1 ≡ suc (count_of c.without-rest.result) = omega (arith, c.numbers_outside-numbers.ensures.rows) in
    let own = c.requires.own in
    record {
      counted = rows;
      stands = subst (λ m. IsCanonicalStanding g.B.Geometry.shape g.B.Geometry.POINTS c.pair.result m c.args.standing.now) (more ∙ sym rows)
          (subst (λ p. IsCanonicalStanding g.B.Geometry.shape g.B.Geometry.POINTS p (count_of c.args.position.now.other) c.args.standing.now) (sym c.pair.ensures.value) c.requires.stands);
      own = search;
      least = ap (representative_of g.B.Geometry.shape) own ∙ c.requires.least ∙ sym own;
      numbers = c.numbers_outside-numbers.ensures.numbers
          ∙ ap (λ o. squeeze_below o c.without-rest.result 24) (c.own.ensures.points ∙ sym own);
    }
