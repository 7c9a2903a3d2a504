use Rattle.std.proofs.Common.{◌≡◌, ap, length, subst, arith}
use Rattle.std.specs.List.{Contains}
use Rattle.morris_moves.specs.Rules.{moves_of}
use Rattle.morris_lookup.proofs.OutcomeLaws.{first_none, first_some, best_falls, picked_of}
use Rattle.morris_lookup.proofs.best.next.Goals as goal

pub returns-in-None-clause-end : goal.returns-in-None-clause-end
returns-in-None-clause-end g c = λ here after m listed.
    let same : c.deref.result.now ≡ c.in_ok-best.best.items = cc in
    absurd (omega (arith, ap length (first_none c.deref.result.now c.in-None.ensures.value), ap length same, c.in_ok-best.ensures.some here after m listed))

pub play-requires : goal.play-requires
play-requires g c =
    let board = g.B.Geometry.shape in
    let s = c.args.position.now in
    let said = c.in_ok-best.ensures.said in
    let same : c.deref.result.now ≡ c.in_ok-best.best.items = cc in
    let there : Contains c.in_ok-best.best.items c.in-Some.m.now =
    subst (λ ms. Contains ms c.in-Some.m.now) same (first_some c.deref.result.now c.in-Some.m.now c.in-Some.ensures.value) in
    picked_of board _ s said.value (moves_of board s) c.in_ok-best.best.items said.picked c.in-Some.m.now there

pub returns-clause-best : goal.returns-clause-best
returns-clause-best g c = λ here after.
    let same : c.deref.result.now ≡ c.in_ok-best.best.items = cc in
    let there : Contains c.in_ok-best.best.items c.in-Some.m.now =
    subst (λ ms. Contains ms c.in-Some.m.now) same (first_some c.deref.result.now c.in-Some.m.now c.in-Some.ensures.value) in
    record {
      best = ((c.in_ok-best.ensures.best here after).each c.in-Some.m.now).0 there;
      leads = c.play.ensures;
    }

pub returns-clause-falls : goal.returns-clause-falls
returns-clause-falls g c = λ here after.
    let step = returns-clause-best g c here after in
    best_falls g.B.Geometry.shape c.args.position.now c.in-Some.m.now c.play.result step.leads step.best
