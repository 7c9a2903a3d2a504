use Rattle.std.proofs.Common.{◌≡◌, ◌<◌, ◌&&◌, ℕ, List, Bool, true, false, ltb, eqb, refl, sym, ap, ap₂, ◌∙◌, arith}
use Rattle.std.proofs.lemmas.Bool.{and_parts, ltb-true}
use Rattle.std.specs.List.{list_any}
use Rattle.morris_board.specs.Sets.{has, members}
use Rattle.morris_moves.specs.Rules.{is_vacant}
use Rattle.morris_pairs.specs.Rows.{may_close}
use Rattle.morris_pairs.proofs.BackLawsLoops.{end_of, next_points, none_left}
use Rattle.morris_pairs.proofs.ComerLaws.{closing-some, closing-none, last-may}
use Rattle.morris_pairs.proofs.RowLaws.{so_far-none, so_far-yes, so_far-no, listed_has, closing_there, some_mask, no_mask}
use Rattle.morris_pairs.proofs.rows.closing_at.Given as given
use Rattle.morris_pairs.proofs.rows.closing_at.Goals as goal
use Rattle.morris_pairs.proofs.rows.closing_at.Goals.{In-Some}

-- the point is vacant, and one of the board
low : (g : given.Over) (c : In-Some g) → c.in-Some.to < g.B.Geometry.POINTS
low g c =
    let here : has c.intersection.result c.in-Some.to ≡ true =
    end_of c.intersection.result c.in-Some.to c.loop-to.yielded _ _
    (c.loop-to.invariant.points ∙ ap members (c.into_iter-to-iterator.ensures.into_iter_gives ∙ c.iter-to-items.ensures.points)) c.in-Some.ensures.steps in
    let free = (and_parts (has c.vacant.result c.in-Some.to) (has c.last_of_mills.result c.in-Some.to) (sym (c.intersection.ensures c.in-Some.to) ∙ here)).0 in
    ltb-true c.in-Some.to g.B.Geometry.POINTS (and_parts (ltb c.in-Some.to g.B.Geometry.POINTS) (is_vacant c.args.position.now c.in-Some.to) (sym (c.vacant.ensures c.in-Some.to) ∙ free)).0

pub loop-to-init : goal.loop-to-init
loop-to-init g c = record { points = refl; closing = so_far-none (may_close g.B.Geometry.shape c.own-own.result) }

pub arrivals_and_closers-closers-requires-clause-end : goal.arrivals_and_closers-closers-requires-clause-end
arrivals_and_closers-closers-requires-clause-end g c = low g (goal.at.arrivals_and_closers-closers-requires-clause-end g c).In-Some

pub with-closing-requires : goal.with-closing-requires
with-closing-requires g c = omega (arith, low g (goal.at.with-closing-requires g c).In-Some, g.met.B.Geometry.few)

pub loop-to-preserved-then-ne : goal.loop-to-preserved-then-ne
loop-to-preserved-then-ne g c = record {
  points = next_points c.loop-to.yielded c.in-Some.to _ _ _ c.loop-to.invariant.points c.in-Some.ensures.steps;
  closing = rw c.with-closing.ensures
      (so_far-yes (may_close g.B.Geometry.shape c.own-own.result) c.loop-to.closing c.in-Some.to c.loop-to.yielded c.loop-to.invariant.closing
      (closing-some g.B.Geometry.shape c.own-own.result c.in-Some.to c.arrivals_and_closers-closers.result.1 c.arrivals_and_closers-closers.ensures.closing
      (some_mask c.arrivals_and_closers-closers.result.1 (sym c.ne.ensures ∙ c.if-ne.true)) (omega arith)));
}

pub loop-to-preserved : goal.loop-to-preserved
loop-to-preserved g c = record {
  points = next_points c.loop-to.yielded c.in-Some.to _ _ _ c.loop-to.invariant.points c.in-Some.ensures.steps;
  closing = so_far-no (may_close g.B.Geometry.shape c.own-own.result) c.loop-to.closing c.in-Some.to c.loop-to.yielded c.loop-to.invariant.closing
      (closing-none g.B.Geometry.shape c.own-own.result c.in-Some.to c.arrivals_and_closers-closers.result.1 c.arrivals_and_closers-closers.ensures.closing
      (no_mask c.arrivals_and_closers-closers.result.1 (sym c.ne.ensures ∙ c.if-ne.false)));
}

-- what two tests say, of which one follows from a third
followed : (x y z : Bool) → (z ≡ true → y ≡ true) → ((x && y) && z) ≡ (x && z)
followed false y z h = refl
followed true true z h = refl
followed true false true h = h refl
followed true false false h = refl

pub returns : goal.returns
returns g c = λ v.
    let own = c.args.position.now.own in
    let all : c.loop-to.yielded ≡ members c.intersection.result =
    none_left c.loop-to.yielded _ _ c.loop-to.invariant.points c.in-None.ensures.steps.0
    ∙ ap members (c.into_iter-to-iterator.ensures.into_iter_gives ∙ c.iter-to-items.ensures.points) in
    c.loop-to.invariant.closing v
    ∙ ap₂ (λ (vs : List ℕ) own. list_any (eqb v) vs && may_close g.B.Geometry.shape own v) all c.own-own.ensures.points
    ∙ ap (λ x. x && may_close g.B.Geometry.shape own v) (listed_has c.intersection.result v (omega arith) ∙ c.intersection.ensures v)
    ∙ followed (has c.vacant.result v) (has c.last_of_mills.result v) (may_close g.B.Geometry.shape own v)
    (last-may g.B.Geometry.shape own c.last_of_mills.result (rw (← c.own-own.ensures.points) c.last_of_mills.ensures) v)
    ∙ ap (λ x. x && may_close g.B.Geometry.shape own v) (c.vacant.ensures v)
    ∙ closing_there g.B.Geometry.shape g.B.Geometry.POINTS c.args.position.now v
