use Rattle.std.proofs.Common.{◌≡◌, ◌+◌, ◌-◌, ◌*◌, ◌<◌, map, ap, ap₂, ◌∙◌, arith}
use Rattle.morris_board.specs.Sets.{members, count_of}
use Rattle.morris_index.specs.Binomials.{choose}
use Rattle.morris_index.specs.Numbering.{rank_of, number_outside}
use Rattle.morris_index.specs.Moves.{start_of}
use Rattle.morris_index.specs.Sums.{AreKept}
use Rattle.morris_index.proofs.IndexLaws.{IsPlaced, placed}
use Rattle.morris_board.proofs.PositionLaws.{own_count, other_count}
use Rattle.morris_index.proofs.MoveLaws.{own_24, other_24, other_fits, turned_rank, turned_within, turned_few, turned_index}
use Rattle.morris_index.proofs.predecessors.PredecessorIndices.of.Given as given
use Rattle.morris_index.proofs.predecessors.PredecessorIndices.of.Goals as goal
use Rattle.morris_index.proofs.predecessors.PredecessorIndices.of.Goals.{After-count}

-- the sums, their ranks, and how large they come to
sums : (g : given.Over) (c : After-count g) → AreKept 1 0 c.args.position.now.other c.of-moved.result
    × AreKept 0 c.args.position.now.other c.args.position.now.own c.of-renumbered.result
    × (c.of-moved.result.rank ≡ rank_of (members c.args.position.now.other))
    × (c.of-renumbered.result.rank ≡ rank_of (map (number_outside c.args.position.now.other) (members c.args.position.now.own)))
    × (rank_of (members c.args.position.now.other) * choose (g.B.Geometry.POINTS - count_of c.args.position.now.other) (count_of c.args.position.now.own)
    + rank_of (map (number_outside c.args.position.now.other) (members c.args.position.now.own)) < 1307504 * 1307504)
sums g c =
    let here : IsPlaced g.B.Geometry.POINTS c.args.position.now = placed g.B.Geometry.shape g.B.Geometry.POINTS c.args.position.now g.met.B.Geometry.point_count c.own-own.ensures.lawful in
    let own = (own_count c.args.position.now c.own-own.ensures.lawful.sized).1 in
    let other = (other_count c.args.position.now c.own-own.ensures.lawful.sized).1 in
    let moved : AreKept 1 0 c.args.position.now.other c.of-moved.result = rw c.other-other.ensures.points at c.of-moved.ensures in
    let renumbered : AreKept 0 c.args.position.now.other c.args.position.now.own c.of-renumbered.result =
    rw (c.other-other.ensures.points, c.own-own.ensures.points) at c.of-renumbered.ensures in (
      moved,
      renumbered,
      turned_rank g.B.Geometry.POINTS g.met.B.Geometry.few c.args.position.now here own other c.of-moved.result moved,
      turned_within g.B.Geometry.POINTS g.met.B.Geometry.few c.args.position.now here own other c.of-renumbered.result renumbered,
      turned_few g.B.Geometry.POINTS g.met.B.Geometry.few c.args.position.now here own other,
    )

pub of-moved-requires-clause-board : goal.of-moved-requires-clause-board
of-moved-requires-clause-board g c =
    rw c.other-other.ensures.points
    (other_24 g.B.Geometry.shape g.B.Geometry.POINTS g.met.B.Geometry.point_count (omega (arith, g.met.B.Geometry.few)) c.args.position.now c.other-other.ensures.lawful)

pub of-renumbered-requires-clause-board : goal.of-renumbered-requires-clause-board
of-renumbered-requires-clause-board g c =
    rw c.own-own.ensures.points
    (own_24 g.B.Geometry.shape g.B.Geometry.POINTS g.met.B.Geometry.point_count (omega (arith, g.met.B.Geometry.few)) c.args.position.now c.other-other.ensures.lawful)

pub overflow_sub-POINTS : goal.overflow_sub-POINTS
overflow_sub-POINTS g c =
    omega (
      arith,
      c.count.ensures.value,
      c.POINTS.ensures,
      ap count_of c.other-other.ensures.points,
      other_fits g.B.Geometry.shape g.B.Geometry.POINTS g.met.B.Geometry.point_count (omega (arith, g.met.B.Geometry.few)) c.args.position.now c.own-own.ensures.lawful,
    )

pub overflow_mul-result : goal.overflow_mul-result
overflow_mul-result g c =
    let is = sums g (goal.at.overflow_mul-result g c).After-count in
    let choices_is : c.binomial-choices.result ≡ choose (g.B.Geometry.POINTS - count_of c.args.position.now.other) (count_of c.args.position.now.own) =
    c.binomial-choices.ensures.value ∙ ap₂ choose (ap₂ (λ n k. n - k) c.POINTS.ensures (c.count.ensures.value ∙ ap count_of c.other-other.ensures.points))
    (c.count-2.ensures.value ∙ ap count_of c.own-own.ensures.points) in
    rw (is.2, choices_is) (omega (arith, is.4))

pub overflow_add-result : goal.overflow_add-result
overflow_add-result g c =
    let is = sums g (goal.at.overflow_add-result g c).After-count in
    let choices_is : c.binomial-choices.result ≡ choose (g.B.Geometry.POINTS - count_of c.args.position.now.other) (count_of c.args.position.now.own) =
    c.binomial-choices.ensures.value ∙ ap₂ choose (ap₂ (λ n k. n - k) c.POINTS.ensures (c.count.ensures.value ∙ ap count_of c.other-other.ensures.points))
    (c.count-2.ensures.value ∙ ap count_of c.own-own.ensures.points) in
    rw (is.2, choices_is, is.3) (omega (arith, is.4))

pub overflow_add-result-2 : goal.overflow_add-result-2
overflow_add-result-2 g c =
    let is = sums g (goal.at.overflow_add-result-2 g c).After-count in
    let choices_is : c.binomial-choices.result ≡ choose (g.B.Geometry.POINTS - count_of c.args.position.now.other) (count_of c.args.position.now.own) =
    c.binomial-choices.ensures.value ∙ ap₂ choose (ap₂ (λ n k. n - k) c.POINTS.ensures (c.count.ensures.value ∙ ap count_of c.other-other.ensures.points))
    (c.count-2.ensures.value ∙ ap count_of c.own-own.ensures.points) in
    rw (is.2, choices_is, is.3) (omega (arith, c.start_of.ensures.few, is.4))

pub invariant_of-result : goal.invariant_of-result
invariant_of-result g c =
    let is = sums g (goal.at.invariant_of-result g c).After-count in
    let choices_is : c.binomial-choices.result ≡ choose (g.B.Geometry.POINTS - count_of c.args.position.now.other) (count_of c.args.position.now.own) =
    c.binomial-choices.ensures.value ∙ ap₂ choose (ap₂ (λ n k. n - k) c.POINTS.ensures (c.count.ensures.value ∙ ap count_of c.other-other.ensures.points))
    (c.count-2.ensures.value ∙ ap count_of c.own-own.ensures.points) in
    record {
      counts = c.requires;
      lawful = c.own-own.ensures.lawful;
      pair = c.start_of.ensures.lawful;
      moved = is.0;
      renumbered = is.1;
      swap_sides = ap₂ (λ x y. x + y)
          (c.start_of.ensures.value ∙ ap (start_of g.B.Geometry.POINTS c.args.pair.now) (c.count-3.ensures.value ∙ ap count_of c.other-other.ensures.points))
          (ap₂ (λ x y. x + y) (ap₂ (λ x y. x * y) is.2 choices_is) is.3)
          ∙ turned_index g.B.Geometry.POINTS (omega (arith, g.met.B.Geometry.few)) c.args.position.now
          (placed g.B.Geometry.shape g.B.Geometry.POINTS c.args.position.now g.met.B.Geometry.point_count c.own-own.ensures.lawful)
          ((own_count c.args.position.now c.own-own.ensures.lawful.sized).1) ((other_count c.args.position.now c.own-own.ensures.lawful.sized).1) c.args.pair.now;
      choices = choices_is;
    }
