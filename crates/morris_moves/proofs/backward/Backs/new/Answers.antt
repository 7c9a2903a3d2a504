use Rattle.std.proofs.Common.{◌≤◌, arith}
use Rattle.std.proofs.lemmas.Bool.{both_ways}
use Rattle.morris_board.proofs.PointsLaws.{has-none}
use Rattle.morris_moves.proofs.BackListLaws.{all_vacant, backs-listed, backs-ascending, backs-few}
use Rattle.morris_moves.proofs.backward.Backs.new.Goals as goal

pub invariant_of-result-2 : goal.invariant_of-result-2
invariant_of-result-2 g c =
    let small : g.B.Geometry.shape.points ≤ 24 = omega (arith, g.met.B.Geometry.few, g.met.B.Geometry.point_count) in (
      c.stones_to_unmove.ensures.stones,
      all_vacant g.B.Geometry.shape small c.args.position c.stones_to_unmove.ensures.lawful c.vacant.result (λ p. rw g.met.B.Geometry.point_count (c.vacant.ensures p)),
      λ v here. absurd (both_ways _ (has-none v) here),
    )

pub returns-clause-listed : goal.returns-clause-listed
returns-clause-listed g c =
    let small : g.B.Geometry.shape.points ≤ 24 = omega (arith, g.met.B.Geometry.few, g.met.B.Geometry.point_count) in
    backs-listed g.B.Geometry.shape small c.args.position c.stones_to_unmove.ensures.lawful c.vacant.result (λ p. rw g.met.B.Geometry.point_count (c.vacant.ensures p))

pub returns-clause-ascending : goal.returns-clause-ascending
returns-clause-ascending g c =
    let small : g.B.Geometry.shape.points ≤ 24 = omega (arith, g.met.B.Geometry.few, g.met.B.Geometry.point_count) in
    backs-ascending g.B.Geometry.shape small c.args.position c.stones_to_unmove.ensures.lawful c.vacant.result (λ p. rw g.met.B.Geometry.point_count (c.vacant.ensures p))

pub returns-clause-few : goal.returns-clause-few
returns-clause-few g c =
    let small : g.B.Geometry.shape.points ≤ 24 = omega (arith, g.met.B.Geometry.few, g.met.B.Geometry.point_count) in
    backs-few g.B.Geometry.shape small c.args.position c.stones_to_unmove.ensures.lawful c.vacant.result (λ p. rw g.met.B.Geometry.point_count (c.vacant.ensures p))
