use Rattle.std.proofs.Common.{◌≡◌, [], ◌∷◌, ◌++◌, Some, length, length-append, sym, ap, subst, ◌∙◌, arith}
use Rattle.std.proofs.lemmas.Bool.{both_ways}
use Rattle.std.specs.List.{AllPairs}
use Rattle.morris_moves.specs.Order.{Precedes}
use Rattle.morris_moves.specs.Rules.{moves_of}
use Rattle.morris_probe.proofs.Listed.{listed_next, listed_all}
use Rattle.morris_probe.specs.Best.{after_best}
use Rattle.morris_probe.proofs.BestLaws.{AreBestOf, best_more, best_same, leads_on, leads_off, best_all}
use Rattle.morris_probe.proofs.SomeBest.{HasValues, values_more, some_listed}
use Rattle.morris_probe.proofs.best.list_best.Goals as goal

pub loop-m-preserved-then-is_after_best : goal.loop-m-preserved-then-is_after_best
loop-m-preserved-then-is_after_best g c =
    let split : c.loop-m.yielded ++ (c.in-Some.m ∷ c.next.new.self) ≡ moves_of g.B.Geometry.shape c.args.position.now =
    ap (λ rest. c.loop-m.yielded ++ rest) (sym c.in-Some.ensures.steps) ∙ c.loop-m.invariant.listed in
    let order : AllPairs Precedes (c.loop-m.yielded ++ (c.in-Some.m ∷ c.next.new.self)) =
    subst (AllPairs Precedes) (c.moves.ensures.listed ∙ sym split) c.moves.ensures.ascending in
    let is : after_best c.args.found ≡ Some c.value_after.result = c.is_after_best.ensures.0 c.if-is_after_best.true in
    let pushed : c.push.new.self.items ≡ c.loop-m.best.items ++ c.in-Some.m ∷ [] = rw c.unwrap.ensures at c.push.ensures.items in
    record {
      listed = listed_next _ _ _ _ _ c.loop-m.invariant.listed c.in-Some.ensures.steps;
      best =
          subst (AreBestOf g.B.Geometry.shape c.args.position.now c.args.found (c.loop-m.yielded ++ c.in-Some.m ∷ [])) (sym pushed)
          (best_more g.B.Geometry.shape c.args.position.now c.args.found c.loop-m.yielded c.next.new.self c.loop-m.best.items c.in-Some.m c.loop-m.invariant.best order
          (leads_on g.B.Geometry.shape c.args.position.now c.args.found c.in-Some.m c.value_after.result c.value_after.ensures is));
      known =
          values_more g.B.Geometry.shape c.args.position.now c.loop-m.yielded c.in-Some.m c.value_after.result c.loop-m.invariant.known c.value_after.ensures;
      few = omega (arith, ap length pushed, length-append c.loop-m.best.items (c.in-Some.m ∷ []), length-append c.loop-m.yielded (c.in-Some.m ∷ []), c.loop-m.invariant.few);
      room = omega (arith, c.push.ensures.capacity, c.loop-m.invariant.room);
    }

pub loop-m-preserved : goal.loop-m-preserved
loop-m-preserved g c =
    let isnt : after_best c.args.found ≡ Some c.value_after.result → ⊥ = λ e. both_ways _ c.if-is_after_best.false (c.is_after_best.ensures.1 e) in
    record {
      listed = listed_next _ _ _ _ _ c.loop-m.invariant.listed c.in-Some.ensures.steps;
      best =
          best_same g.B.Geometry.shape c.args.position.now c.args.found c.loop-m.yielded c.next.new.self c.loop-m.best.items c.in-Some.m c.loop-m.invariant.best
          (leads_off g.B.Geometry.shape c.args.position.now c.args.found c.in-Some.m c.value_after.result c.value_after.ensures isnt);
      known =
          values_more g.B.Geometry.shape c.args.position.now c.loop-m.yielded c.in-Some.m c.value_after.result c.loop-m.invariant.known c.value_after.ensures;
      few = omega (arith, length-append c.loop-m.yielded (c.in-Some.m ∷ []), c.loop-m.invariant.few);
      room = c.loop-m.invariant.room;
    }

pub returns-clause-best : goal.returns-clause-best
returns-clause-best g c =
    best_all g.B.Geometry.shape c.args.position.now c.args.found c.loop-m.best.items c.requires.value
    (subst (λ seen. AreBestOf g.B.Geometry.shape c.args.position.now c.args.found seen c.loop-m.best.items)
    (listed_all _ _ _ c.loop-m.invariant.listed c.in-None.ensures.steps.0) c.loop-m.invariant.best)

pub returns-clause-some : goal.returns-clause-some
returns-clause-some g c =
    let all = listed_all _ _ _ c.loop-m.invariant.listed c.in-None.ensures.steps.0 in
    some_listed g.B.Geometry.shape c.args.position.now c.args.found c.loop-m.best.items c.requires.value
    (subst (HasValues g.B.Geometry.shape c.args.position.now) all c.loop-m.invariant.known)
    (subst (λ seen. AreBestOf g.B.Geometry.shape c.args.position.now c.args.found seen c.loop-m.best.items) all c.loop-m.invariant.best)
