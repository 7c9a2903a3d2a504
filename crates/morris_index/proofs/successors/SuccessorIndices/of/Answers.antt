use Rattle.std.proofs.Common.{◌≡◌, ◌+◌, ◌-◌, ◌*◌, ◌<◌, map, ap, ap₂, ◌∙◌, arith}
use Rattle.morris_board.specs.Sets.{members, count_of}
use Rattle.morris_index.specs.Binomials.{choose}
use Rattle.morris_index.specs.Numbering.{rank_of, number_outside}
use Rattle.morris_index.specs.Moves.{start_of}
use Rattle.morris_index.proofs.IndexLaws.{placed, map_number-none}
use Rattle.morris_board.proofs.PositionLaws.{own_count, other_count}
use Rattle.morris_index.proofs.MoveLaws.{own_24, other_24, other_fits, turned_few}
use Rattle.morris_index.proofs.successors.SuccessorIndices.of.Given as given
use Rattle.morris_index.proofs.successors.SuccessorIndices.of.Goals as goal
use Rattle.morris_index.proofs.successors.SuccessorIndices.of.Goals.{After-rank}

pub overflow_sub-POINTS : goal.overflow_sub-POINTS
overflow_sub-POINTS g c =
    omega (
      arith,
      c.count.ensures.value,
      c.POINTS.ensures,
      ap count_of c.other-other.ensures.points,
      other_fits g.B.Geometry.shape g.B.Geometry.POINTS g.met.B.Geometry.point_count (omega (arith, g.met.B.Geometry.few)) c.args.position.now c.own-own.ensures.lawful,
    )

pub of-requires-clause-board : goal.of-requires-clause-board
of-requires-clause-board g c = rw c.own-own.ensures.points (own_24 g.B.Geometry.shape g.B.Geometry.POINTS g.met.B.Geometry.point_count (omega (arith, g.met.B.Geometry.few)) c.args.position.now c.own-own.ensures.lawful)

pub rank-requires-clause-board : goal.rank-requires-clause-board
rank-requires-clause-board g c = rw c.other-other.ensures.points (other_24 g.B.Geometry.shape g.B.Geometry.POINTS g.met.B.Geometry.point_count (omega (arith, g.met.B.Geometry.few)) c.args.position.now c.own-own.ensures.lawful)

-- the rank, the number of choices, and how large they come to
parts : (g : given.Over) (c : After-rank g) → (c.rank.result ≡ rank_of (members c.args.position.now.other))
    × (c.binomial-choices.result ≡ choose (g.B.Geometry.POINTS - count_of c.args.position.now.other) (count_of c.args.position.now.own))
    × (rank_of (members c.args.position.now.other) * choose (g.B.Geometry.POINTS - count_of c.args.position.now.other) (count_of c.args.position.now.own)
    + rank_of (map (number_outside c.args.position.now.other) (members c.args.position.now.own)) < 1307504 * 1307504)
parts g c = (
  c.rank.ensures.value ∙ (ap rank_of (map_number-none (members c.other-other.result)) ∙ ap (λ o. rank_of (members o)) c.other-other.ensures.points),
  c.binomial-choices.ensures.value ∙ ap₂ choose (ap₂ (λ n k. n - k) c.POINTS.ensures (c.count.ensures.value ∙ ap count_of c.other-other.ensures.points))
      (c.count-2.ensures.value ∙ ap count_of c.own-own.ensures.points),
  turned_few g.B.Geometry.POINTS g.met.B.Geometry.few c.args.position.now
      (placed g.B.Geometry.shape g.B.Geometry.POINTS c.args.position.now g.met.B.Geometry.point_count c.own-own.ensures.lawful)
      ((own_count c.args.position.now c.own-own.ensures.lawful.sized).1) ((other_count c.args.position.now c.own-own.ensures.lawful.sized).1),
)

pub overflow_mul-result : goal.overflow_mul-result
overflow_mul-result g c =
    let is = parts g (goal.at.overflow_mul-result g c).After-rank in
    rw (is.0, is.1) (omega (arith, is.2))

pub overflow_add-result : goal.overflow_add-result
overflow_add-result g c =
    let is = parts g (goal.at.overflow_add-result g c).After-rank in
    rw (is.0, is.1) (omega (arith, c.start_of.ensures.few, is.2))

pub invariant_of-result : goal.invariant_of-result
invariant_of-result g c =
    let is = parts g (goal.at.invariant_of-result g c).After-rank in
    let others : c.count-3.result ≡ count_of c.args.position.now.other = c.count-3.ensures.value ∙ ap count_of c.other-other.ensures.points in
    record {
      counts = c.requires;
      lawful = c.own-own.ensures.lawful;
      pair = c.start_of.ensures.lawful;
      moved = rw (c.other-other.ensures.points, c.own-own.ensures.points) at c.of.ensures;
      start = ap₂ (λ x y. x + y) (c.start_of.ensures.value ∙ ap (start_of g.B.Geometry.POINTS c.args.pair.now) others) (ap₂ (λ x y. x * y) is.0 is.1);
    }
