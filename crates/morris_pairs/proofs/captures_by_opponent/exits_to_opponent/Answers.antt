use Rattle.std.proofs.Common.{◌≡◌, ℕ, ◌<◌, ◌++◌, ◌∷◌, [], true, Some, map, refl, sym, ap, subst, ◌∙◌, arith}
use Rattle.std.proofs.lemmas.List.{map-append}
use Rattle.morris_board.specs.Sets.{has, members, count_of, without_point}
use Rattle.morris_board.specs.Positions.{Sides, sides}
use Rattle.morris_moves.specs.Rules.{move_stone, move, takable_stones, result_of}
use Rattle.morris_wave.specs.Exits.{exits_of}
use Rattle.morris_pairs.specs.Captured.{IsStandingIn, IsLeft}
use Rattle.morris_pairs.specs.Codes.{code_to}
use Rattle.morris_pairs.specs.CaptureCaches.{codes_by_opponent}
use Rattle.morris_pairs.proofs.BackLawsLoops.{end_of, next_points, none_left}
use Rattle.morris_pairs.proofs.CapturedLaws.{taken_in, left_within, left_counts, left_stands, led_to, left_code}
use Rattle.morris_pairs.proofs.CaptureLaws.{closing_in}
use Rattle.morris_pairs.proofs.CodeLaws.{code_to-is}
use Rattle.morris_pairs.proofs.FacingCaptureLaws.{some_opponent}
use Rattle.morris_pairs.proofs.captures_by_opponent.exits_to_opponent.Given as given
use Rattle.morris_pairs.proofs.captures_by_opponent.exits_to_opponent.Goals as goal
use Rattle.morris_pairs.proofs.captures_by_opponent.exits_to_opponent.Goals.{In-Some-taken, After-standing-standing}

-- the stone may be taken
here : (g : given.Over) (c : In-Some-taken g) → has (takable_stones g.B.Geometry.shape c.args.position.now.other) c.in-Some-taken.taken ≡ true
here g c =
    end_of (takable_stones g.B.Geometry.shape c.args.position.now.other) c.in-Some-taken.taken c.loop-taken.yielded _ _ c.loop-taken.invariant.points c.in-Some-taken.ensures.steps

-- where the results of taking a stone stand
left : (g : given.Over) (c : After-standing-standing g) → has (takable_stones g.B.Geometry.shape c.args.position.now.other) c.in-Some-taken.taken ≡ true
    → IsLeft g.B.Geometry.shape g.B.Geometry.POINTS c.args.position.now c.args.table.now c.in-Some-taken.taken c.standing-standing.result
left g c is = record {
  takes = is;
  own = c.standing-standing.ensures.own ∙ (c.without.ensures ∙ ap (λ o. without_point o c.in-Some-taken.taken) c.other-other.ensures.points);
  stands = subst (λ k. IsStandingIn g.B.Geometry.shape g.B.Geometry.POINTS c.args.table.now.layout c.args.table.now.pair k c.standing-standing.result)
      (c.count-many.ensures.value ∙ ap count_of c.own.ensures.points) c.standing-standing.ensures.stands;
}

pub get-requires : goal.get-requires
get-requires g c =
    subst (λ x. 0 < x) (sym c.requires.mover.3)
    (some_opponent c.args.position.now.own c.requires.mover.0 c.requires.mover.1
    (omega (
      arith,
      g.met.B.Geometry.few,
      closing_in g.B.Geometry.shape g.B.Geometry.POINTS g.met.B.Geometry.point_count g.met.B.Geometry.few c.args.position.now
          c.requires.lawful c.requires.mover.0 c.requires.mover.1 c.requires.mover.2,
    )))

pub returns-in-Some-clause-value : goal.returns-in-Some-clause-value
returns-in-Some-clause-value g c =
    c.in-Some.ensures (codes_by_opponent g.B.Geometry.shape) c.requires.cache ∙ ap (λ o. exits_of (codes_by_opponent g.B.Geometry.shape o c.args.opponent_set)) c.other-other.ensures.points

pub loop-taken-init : goal.loop-taken-init
loop-taken-init g c = record {
  points = ap members (c.into_iter-taken-iterator.ensures.into_iter_gives
      ∙ (c.iter-taken-items.ensures.points ∙ (c.takable_stones.ensures ∙ ap (takable_stones g.B.Geometry.shape) c.other-other.ensures.points)));
  summed = refl;
}

pub without-requires : goal.without-requires
without-requires g c =
    omega (
      arith,
      taken_in g.B.Geometry.shape g.B.Geometry.POINTS g.met.B.Geometry.point_count g.met.B.Geometry.few c.args.position.now c.requires.lawful
          c.in-Some-taken.taken (here g (goal.at.without-requires g c).In-Some-taken),
    )

pub standing-standing-requires-clause-within : goal.standing-standing-requires-clause-within
standing-standing-requires-clause-within g c =
    rw (c.without.ensures, c.other-other.ensures.points)
    (left_within g.B.Geometry.shape g.B.Geometry.POINTS g.met.B.Geometry.point_count g.met.B.Geometry.few c.args.position.now c.requires.lawful
    c.in-Some-taken.taken (here g (goal.at.standing-standing-requires-clause-within g c).In-Some-taken))

pub standing-standing-requires-clause-counts : goal.standing-standing-requires-clause-counts
standing-standing-requires-clause-counts g c =
    rw (c.without.ensures, c.other-other.ensures.points, c.count-many.ensures.value, c.own.ensures.points)
    (left_counts g.B.Geometry.shape g.B.Geometry.POINTS g.met.B.Geometry.point_count g.met.B.Geometry.few c.args.position.now c.requires.lawful
    c.in-Some-taken.taken (here g (goal.at.standing-standing-requires-clause-counts g c).In-Some-taken) c.args.table.now c.requires.table)

pub code_at-requires-clause-stands : goal.code_at-requires-clause-stands
unfolding move_stone
code_at-requires-clause-stands g c =
    let at = goal.at.code_at-requires-clause-stands g c in
    left_stands g.B.Geometry.shape g.B.Geometry.POINTS g.met.B.Geometry.point_count g.met.B.Geometry.few c.args.position.now c.requires.lawful
    c.in-Some-taken.taken (here g at.In-Some-taken) c.args.table.now c.requires.table c.standing-standing.result (left g at.After-standing-standing (here g at.In-Some-taken))
    c.requires.mover.0 c.requires.mover.1 c.requires.mover.2 c.args.opponent_set c.requires.mover.3

pub code_at-requires-clause-lawful : goal.code_at-requires-clause-lawful
unfolding move_stone
code_at-requires-clause-lawful g c =
    let at = goal.at.code_at-requires-clause-lawful g c in
    led_to g.B.Geometry.shape g.B.Geometry.POINTS g.met.B.Geometry.point_count g.met.B.Geometry.few c.args.position.now c.requires.lawful
    c.in-Some-taken.taken (here g at.In-Some-taken) c.args.table.now c.requires.table c.standing-standing.result (left g at.After-standing-standing (here g at.In-Some-taken))
    c.requires.mover.0 c.requires.mover.1 c.requires.mover.2 c.args.opponent_set c.requires.mover.3

pub loop-taken-preserved : goal.loop-taken-preserved
unfolding move_stone result_of
loop-taken-preserved g c =
    let at = goal.at.loop-taken-preserved g c in
    let s : Sides = c.args.position.now in
    let taken : ℕ = c.in-Some-taken.taken in
    let f : ℕ → ℕ = λ t. code_to 65534 g.B.Geometry.shape (sides (without_point s.other t) c.args.opponent_set) in
    let code : f taken ≡ c.code_at.result =
    ap (λ x. code_to 65534 g.B.Geometry.shape (sides (without_point s.other taken) x)) c.requires.mover.3
    ∙ code_to-is g.B.Geometry.shape (result_of s (move c.requires.mover.0 c.requires.mover.1 (Some taken))) c.code_at.result
    (left_code g.B.Geometry.shape g.B.Geometry.POINTS g.met.B.Geometry.point_count g.met.B.Geometry.few s c.requires.lawful
    taken (here g at.In-Some-taken) c.args.table.now c.requires.table c.standing-standing.result (left g at.After-standing-standing (here g at.In-Some-taken))
    c.requires.mover.0 c.requires.mover.1 c.requires.mover.2 c.args.opponent_set c.requires.mover.3 c.code_at.result c.code_at.ensures)
    (omega (arith, c.code_at.type_inv)) in
    record {
      points = next_points c.loop-taken.yielded taken _ _ _ c.loop-taken.invariant.points c.in-Some-taken.ensures.steps;
      summed = c.with-exits.ensures.more (map f c.loop-taken.yielded) c.loop-taken.invariant.summed
          ∙ ap exits_of (ap (λ x. map f c.loop-taken.yielded ++ x ∷ []) (sym code) ∙ sym (map-append f c.loop-taken.yielded (taken ∷ [])));
    }

pub returns-clause-value : goal.returns-clause-value
unfolding codes_by_opponent
returns-clause-value g c =
    let s : Sides = c.args.position.now in
    let all = none_left c.loop-taken.yielded _ _ c.loop-taken.invariant.points c.in-None.ensures.steps.0 in
    c.loop-taken.invariant.summed ∙ ap (λ ts. exits_of (map (λ t. code_to 65534 g.B.Geometry.shape (sides (without_point s.other t) c.args.opponent_set)) ts)) all

pub returns-clause-cache : goal.returns-clause-cache
returns-clause-cache g c =
    c.put.ensures (codes_by_opponent g.B.Geometry.shape) c.requires.cache
    (returns-clause-value g c ∙ ap (λ o. exits_of (codes_by_opponent g.B.Geometry.shape o c.args.opponent_set)) (sym c.other-other.ensures.points))
