use Rattle.std.proofs.Common.{◌≡◌, ℕ, ◌++◌, List, sym, ap, ◌∙◌, arith}
use Rattle.std.proofs.lemmas.List.{append-nil}
use Rattle.morris_board.specs.Sets.{members, with_point, without_point}
use Rattle.morris_moves.specs.Rules.{move_stone}
use Rattle.morris_moves.proofs.SetLaws.{point_lt}
use Rattle.morris_wave.specs.Exits.{exits_of}
use Rattle.morris_pairs.specs.Captured.{IsClosing}
use Rattle.morris_pairs.specs.CaptureCaches.{codes_by_opponent, codes_by}
use Rattle.morris_pairs.proofs.BackLawsLoops.{end_of, next_points, none_left}
use Rattle.morris_pairs.proofs.CaptureLaws.{closing_in}
use Rattle.morris_pairs.proofs.FacingCaptureLaws.{codes_more}
use Rattle.morris_pairs.proofs.captures_by_opponent.with_opponents.Given as given
use Rattle.morris_pairs.proofs.captures_by_opponent.with_opponents.Goals as goal
use Rattle.morris_pairs.proofs.captures_by_opponent.with_opponents.Goals.{In-Some, After-with-opponent_set}

-- the stone closes a mill
closing : (g : given.Over) (c : In-Some g) → IsClosing g.B.Geometry.shape c.args.position.now c.in-Some.from c.args.to
closing g c =
    c.requires.closers c.in-Some.from (end_of c.args.closers c.in-Some.from c.loop-from.yielded _ _ c.loop-from.invariant.points c.in-Some.ensures.steps)

opponent_set : (g : given.Over) (c : After-with-opponent_set g) → c.with-opponent_set.result ≡ move_stone c.args.position.now.own c.in-Some.from c.args.to
unfolding move_stone
opponent_set g c = c.with-opponent_set.ensures ∙ ap (λ o. with_point o c.args.to) (c.without.ensures ∙ ap (λ o. without_point o c.in-Some.from) c.own-own.ensures.points)

pub loop-from-init : goal.loop-from-init
loop-from-init g c = record {
  points = ap members (c.into_iter-from-iterator.ensures.into_iter_gives ∙ c.iter-from-items.ensures.points);
  cache = c.requires.cache;
  summed = λ codes e. e ∙ ap exits_of (sym (append-nil codes));
}

pub without-requires : goal.without-requires
without-requires g c =
    omega (
      arith,
      g.met.B.Geometry.few,
      g.met.B.Geometry.point_count,
      point_lt c.args.position.now.own g.B.Geometry.shape.points c.in-Some.from
          c.requires.lawful.stones.own_within (closing g (goal.at.without-requires g c).In-Some).own,
    )

pub with-opponent_set-requires : goal.with-opponent_set-requires
with-opponent_set-requires g c =
    omega (
      arith,
      g.met.B.Geometry.few,
      closing_in g.B.Geometry.shape g.B.Geometry.POINTS g.met.B.Geometry.point_count g.met.B.Geometry.few c.args.position.now
          c.requires.lawful c.in-Some.from c.args.to (closing g (goal.at.with-opponent_set-requires g c).In-Some),
    )

pub exits_to_opponent-requires-clause-mover : goal.exits_to_opponent-requires-clause-mover
exits_to_opponent-requires-clause-mover g c =
    let at = goal.at.exits_to_opponent-requires-clause-mover g c in
    (c.in-Some.from, c.args.to, closing g at.In-Some, opponent_set g at.After-with-opponent_set)

pub loop-from-preserved : goal.loop-from-preserved
loop-from-preserved g c =
    let at = goal.at.loop-from-preserved g c in
    let f : ℕ → List ℕ = λ u. codes_by_opponent g.B.Geometry.shape c.args.position.now.other (move_stone c.args.position.now.own u c.args.to) in
    record {
      points = next_points c.loop-from.yielded c.in-Some.from _ _ _ c.loop-from.invariant.points c.in-Some.ensures.steps;
      cache = c.exits_to_opponent.ensures.cache;
      summed = λ codes e. codes_more f codes c.loop-from.exits c.exits_to_opponent.result c.merge-exits.result c.in-Some.from c.loop-from.yielded
          (c.loop-from.invariant.summed codes e)
          (c.exits_to_opponent.ensures.value ∙ ap (λ x. exits_of (codes_by_opponent g.B.Geometry.shape c.args.position.now.other x)) (opponent_set g at.After-with-opponent_set)) c.merge-exits.ensures;
    }

pub returns-clause-value : goal.returns-clause-value
returns-clause-value g c = λ codes e.
    let all = none_left c.loop-from.yielded _ _ c.loop-from.invariant.points c.in-None.ensures.steps.0 in
    c.loop-from.invariant.summed codes e ∙ ap (λ us. exits_of (codes ++ codes_by g.B.Geometry.shape c.args.position.now c.args.to us)) all
