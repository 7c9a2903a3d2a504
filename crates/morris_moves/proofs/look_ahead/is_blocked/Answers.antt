use Rattle.std.proofs.Common.{◌≡◌, ℕ, ◌≤◌, ◌++◌, List, true, sym, ap, ◌∙◌, subst, arith}
use Rattle.std.proofs.lemmas.Bool.{both_ways, not-true, eq-eqb}
use Rattle.std.proofs.lemmas.List.{append-nil}
use Rattle.morris_board.specs.Sets.{has, members}
use Rattle.morris_board.proofs.SetLaws.{point_lt}
use Rattle.morris_moves.proofs.BlockedLaws.{AreStuck, at_point, stuck_is_lost, free_not_lost}
use Rattle.morris_moves.proofs.look_ahead.is_blocked.Goals as goal

pub reach-requires : goal.reach-requires
reach-requires g c =
    let here : has c.args.position.now.own c.in-Some.from ≡ true =
    at_point c.args.position.now.own c.in-Some.from c.loop-from.yielded (members c.next.new.self)
    (ap (λ (zs : List ℕ). c.loop-from.yielded ++ zs) (sym c.in-Some.ensures.steps) ∙ c.loop-from.invariant.points) in
    omega (
      arith,
      g.met.B.Geometry.point_count,
      point_lt c.args.position.now.own g.B.Geometry.shape.points c.in-Some.from c.own.ensures.lawful.stones.own_within here,
    )

pub returns-then-ne : goal.returns-then-ne
returns-then-ne g c =
    let small : g.B.Geometry.shape.points ≤ 24 = omega (arith, g.met.B.Geometry.few, g.met.B.Geometry.point_count) in
    let here : has c.args.position.now.own c.in-Some.from ≡ true =
    at_point c.args.position.now.own c.in-Some.from c.loop-from.yielded (members c.next.new.self)
    (ap (λ (zs : List ℕ). c.loop-from.yielded ++ zs) (sym c.in-Some.ensures.steps) ∙ c.loop-from.invariant.points) in
    sym (free_not_lost g.B.Geometry.shape c.args.position.now small c.own.ensures.lawful c.in-Some.from here (rw (← c.reach.ensures)
    (λ e. both_ways _ (not-true _ (sym c.ne.ensures ∙ c.if-ne.true)) (eq-eqb c.reach.result 0 e))))

pub returns : goal.returns
returns g c =
    let all : c.loop-from.yielded ≡ members c.args.position.now.own =
    sym (append-nil c.loop-from.yielded) ∙ (ap (λ (zs : List ℕ). c.loop-from.yielded ++ zs) (sym c.in-None.ensures.steps.0) ∙ c.loop-from.invariant.points) in
    sym (stuck_is_lost g.B.Geometry.shape c.args.position.now (subst (λ us. AreStuck g.B.Geometry.shape c.args.position.now us) all c.loop-from.invariant.stuck))
