use Rattle.std.proofs.Common.{◌≡◌, ◌<◌, ℕ, Some, map, ap, subst, ◌∙◌, arith}
use Rattle.morris_board.specs.Sets.{members, with_point, without_point}
use Rattle.morris_board.specs.Boards.{Shape}
use Rattle.morris_board.specs.Positions.{Sides, IsPosition}
use Rattle.morris_moves.specs.Rules.{move}
use Rattle.morris_moves.proofs.LegalLaws.{reached}
use Rattle.morris_moves.proofs.SetLaws.{point_lt}
use Rattle.morris_pairs.specs.Captured.{IsClosing}
use Rattle.morris_pairs.proofs.BackLawsLoops.{end_of, next_points, none_left}
use Rattle.morris_pairs.proofs.CaptureLaws.{GoesOn, goes_none, goes_capture}
use Rattle.morris_pairs.proofs.CapturedLaws.{left_stands, led_to, left_code}
use Rattle.morris_pairs.proofs.graph.with_closers.Given as given
use Rattle.morris_pairs.proofs.graph.with_closers.Goals as goal
use Rattle.morris_pairs.proofs.graph.with_closers.Goals.{In-Some, After-with-opponent_set}

-- the stone closes a mill
closing : (g : given.Over) (c : In-Some g) → IsClosing g.B.Geometry.shape c.args.position.now c.in-Some.from c.args.to
closing g c =
    c.requires.closers c.in-Some.from (end_of c.args.closers c.in-Some.from c.loop-from.yielded _ _ c.loop-from.invariant.points c.in-Some.ensures.steps)

opponent_set : (g : given.Over) (c : After-with-opponent_set g) → c.with-opponent_set.result ≡ with_point (without_point c.args.position.now.own c.in-Some.from) c.args.to
opponent_set g c = c.with-opponent_set.ensures ∙ ap (λ o. with_point o c.args.to) (c.without.ensures ∙ ap (λ o. without_point o c.in-Some.from) c.own-own.ensures.points)

-- a closing move goes from a point of the board to another
module _ (b : Shape) (n : ℕ) (points : b.points ≡ n) (s : Sides) (lawful : IsPosition b s) (u v : ℕ) (closing : IsClosing b s u v) where
  from_low : u < n
  from_low = omega (arith, points, point_lt s.own b.points u lawful.stones.own_within closing.own)

  to_low : v < n
  to_low = let there = reached b s u v closing.goes in omega (arith, points, there.within)

pub loop-from-init : goal.loop-from-init
loop-from-init g c = record {
  points = ap members (c.into_iter-from-iterator.ensures.into_iter_gives ∙ c.iter-from-items.ensures.points);
  summed = λ taken left. goes_none g.B.Geometry.shape c.args.position.now c.args.known;
}

pub without-requires : goal.without-requires
without-requires g c =
    omega (arith, g.met.B.Geometry.few, from_low g.B.Geometry.shape g.B.Geometry.POINTS g.met.B.Geometry.point_count c.args.position.now c.requires.lawful c.in-Some.from c.args.to (closing g (goal.at.without-requires g c).In-Some))

pub with-opponent_set-requires : goal.with-opponent_set-requires
with-opponent_set-requires g c =
    omega (arith, g.met.B.Geometry.few, to_low g.B.Geometry.shape g.B.Geometry.POINTS g.met.B.Geometry.point_count c.args.position.now c.requires.lawful c.in-Some.from c.args.to (closing g (goal.at.with-opponent_set-requires g c).In-Some))

pub code_at-requires-clause-stands : goal.code_at-requires-clause-stands
code_at-requires-clause-stands g c =
    let at = goal.at.code_at-requires-clause-stands g c in
    left_stands g.B.Geometry.shape g.B.Geometry.POINTS g.met.B.Geometry.point_count g.met.B.Geometry.few c.args.position.now c.requires.lawful c.requires.standing.0
    c.requires.standing.1.takes c.args.table.now c.requires.table c.args.standing.now c.requires.standing.1 c.in-Some.from c.args.to (closing g at.In-Some) c.with-opponent_set.result (opponent_set g at.After-with-opponent_set)

pub code_at-requires-clause-lawful : goal.code_at-requires-clause-lawful
code_at-requires-clause-lawful g c =
    let at = goal.at.code_at-requires-clause-lawful g c in
    led_to g.B.Geometry.shape g.B.Geometry.POINTS g.met.B.Geometry.point_count g.met.B.Geometry.few c.args.position.now c.requires.lawful c.requires.standing.0
    c.requires.standing.1.takes c.args.table.now c.requires.table c.args.standing.now c.requires.standing.1 c.in-Some.from c.args.to (closing g at.In-Some) c.with-opponent_set.result (opponent_set g at.After-with-opponent_set)

pub loop-from-preserved : goal.loop-from-preserved
loop-from-preserved g c =
    let at = goal.at.loop-from-preserved g c in
    record {
      points = next_points c.loop-from.yielded c.in-Some.from _ _ _ c.loop-from.invariant.points c.in-Some.ensures.steps;
      summed = λ taken left. rw c.with-exits.ensures.value (goes_capture g.B.Geometry.shape c.args.position.now c.args.known c.loop-from.exits c.in-Some.from c.args.to taken
          c.code_at.result c.loop-from.yielded (c.loop-from.invariant.summed taken left)
          (left_code g.B.Geometry.shape g.B.Geometry.POINTS g.met.B.Geometry.point_count g.met.B.Geometry.few c.args.position.now c.requires.lawful taken
          left.takes c.args.table.now c.requires.table c.args.standing.now left c.in-Some.from c.args.to (closing g at.In-Some) c.with-opponent_set.result (opponent_set g at.After-with-opponent_set)
          c.code_at.result c.code_at.ensures)
          (omega (arith, c.code_at.type_inv)));
    }

pub returns : goal.returns
returns g c = λ taken left.
    let each = none_left c.loop-from.yielded _ _ c.loop-from.invariant.points c.in-None.ensures.steps.0 in
    subst (λ us. GoesOn g.B.Geometry.shape c.args.position.now c.args.known c.loop-from.exits (map (λ u. move u c.args.to (Some taken)) us)) each
    (c.loop-from.invariant.summed taken left)
