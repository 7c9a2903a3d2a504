use Rattle.std.proofs.Common.{◌≡◌, ℕ, ◌+◌, ◌*◌, ◌-◌, ◌<◌, ◌≤◌, ◌^◌, ◌∙◌, refl, arith, map}
use Rattle.morris_board.specs.Sets.{members, count_of}
use Rattle.morris_board.specs.Positions.{Sides, IsPosition}
use Rattle.morris_board.specs.Boards.{Shape}
use Rattle.morris_index.specs.Binomials.{choose}
use Rattle.morris_index.specs.Numbering.{rank_of, number_outside, half_size, half_index}
use Rattle.morris_index.proofs.IndexLaws.{IsPlaced, placed, counts_fit, half_index-lt, half_index-few, map_number-none, within_24}
use Rattle.morris_board.proofs.PositionLaws.{own_count, other_count}
use Rattle.morris_index.proofs.halves.half_index.Given as given
use Rattle.morris_index.proofs.halves.half_index.Goals as goal
use Rattle.morris_index.proofs.halves.half_index.Goals.{After-rank_outside}

-- a position of the board, with the number of points that the code reads
module _ (b : Shape) (n : ℕ) (few : n ≤ 24) (points : b.points ≡ n) (s : Sides) (lawful : IsPosition b s) where
  at : IsPlaced n s
  at = placed b n s points lawful

  pub free : count_of s.own ≤ n
  free = omega (arith, counts_fit n (omega arith) s at)

  pub own_small : s.own < 2 ^ 24
  own_small = within_24 s.own n at.own_within few

  pub other_small : s.other < 2 ^ 24
  other_small = within_24 s.other n at.other_within few

  -- the sum that the code computes
  pub fits : rank_of (map (number_outside 0) (members s.own)) * choose (n - count_of s.own) (count_of s.other)
      + rank_of (map (number_outside s.own) (members s.other)) < 1307504 * 1307504
  unfolding half_index
  fits =
      rw (map_number-none (members s.own))
      (half_index-few n s few at ((own_count s lawful.sized).1) ((other_count s lawful.sized).1))

  pub is_index : rank_of (map (number_outside 0) (members s.own)) * choose (n - count_of s.own) (count_of s.other)
      + rank_of (map (number_outside s.own) (members s.other)) ≡ half_index n s
  unfolding half_index
  is_index = rw (map_number-none (members s.own)) refl

  pub below_size : half_index n s < half_size n (count_of s.own) (count_of s.other)
  below_size = half_index-lt n (omega arith) s at

pub overflow_sub-POINTS : goal.overflow_sub-POINTS
overflow_sub-POINTS g c =
    rw (c.count.ensures.value, c.own-own.ensures.points, c.POINTS.ensures)
    (free g.B.Geometry.shape g.B.Geometry.POINTS (omega (arith, g.met.B.Geometry.few)) g.met.B.Geometry.point_count c.args.position.now c.own-own.ensures.lawful)

pub rank-requires-clause-board : goal.rank-requires-clause-board
rank-requires-clause-board g c =
    rw c.own-own.ensures.points
    (own_small g.B.Geometry.shape g.B.Geometry.POINTS (omega (arith, g.met.B.Geometry.few)) g.met.B.Geometry.point_count c.args.position.now c.own-own.ensures.lawful)

pub rank_outside-requires-clause-board : goal.rank_outside-requires-clause-board
rank_outside-requires-clause-board g c =
    rw c.other-other.ensures.points
    (other_small g.B.Geometry.shape g.B.Geometry.POINTS (omega (arith, g.met.B.Geometry.few)) g.met.B.Geometry.point_count c.args.position.now c.own-own.ensures.lawful)

pub overflow_mul-result : goal.overflow_mul-result
overflow_mul-result g c =
    rw (
      c.rank.ensures.value,
      c.binomial-choices.ensures.value,
      c.POINTS.ensures,
      c.count.ensures.value,
      c.count-2.ensures.value,
      c.own-own.ensures.points,
      c.other-other.ensures.points,
    )
    (omega (arith, fits g.B.Geometry.shape g.B.Geometry.POINTS (omega (arith, g.met.B.Geometry.few)) g.met.B.Geometry.point_count c.args.position.now c.own-own.ensures.lawful))

-- what the code adds up
sum : (g : given.Over) (c : After-rank_outside g) → c.rank.result * c.binomial-choices.result + c.rank_outside.result
    ≡ rank_of (map (number_outside 0) (members c.args.position.now.own)) * choose (g.B.Geometry.POINTS - count_of c.args.position.now.own) (count_of c.args.position.now.other)
    + rank_of (map (number_outside c.args.position.now.own) (members c.args.position.now.other))
sum g c =
    rw (
      c.rank.ensures.value,
      c.rank_outside.ensures.value,
      c.binomial-choices.ensures.value,
      c.POINTS.ensures,
      c.count.ensures.value,
      c.count-2.ensures.value,
      c.own-own.ensures.points,
      c.other-other.ensures.points,
    ) refl

pub overflow_add-result : goal.overflow_add-result
overflow_add-result g c =
    omega (
      arith,
      sum g (goal.at.overflow_add-result g c).After-rank_outside,
      fits g.B.Geometry.shape g.B.Geometry.POINTS (omega (arith, g.met.B.Geometry.few)) g.met.B.Geometry.point_count c.args.position.now c.own-own.ensures.lawful,
    )

pub returns-clause-value : goal.returns-clause-value
returns-clause-value g c =
    sum g (goal.at.returns-clause-value g c).After-rank_outside
    ∙ is_index g.B.Geometry.shape g.B.Geometry.POINTS (omega (arith, g.met.B.Geometry.few)) g.met.B.Geometry.point_count c.args.position.now c.own-own.ensures.lawful

pub returns-clause-below : goal.returns-clause-below
returns-clause-below g c =
    rw (returns-clause-value g c)
    (below_size g.B.Geometry.shape g.B.Geometry.POINTS (omega (arith, g.met.B.Geometry.few)) g.met.B.Geometry.point_count c.args.position.now c.own-own.ensures.lawful)
