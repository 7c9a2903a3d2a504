use Rattle.std.proofs.Common.{◌≡◌, ◌-◌, ◌<◌, true, false, sym, ap, ◌∙◌, arith}
use Rattle.morris_moves.specs.Rules.{result_of}
use Rattle.morris_moves.specs.Values.{is_lost, is_won}
use Rattle.morris_moves.proofs.ListLaws.{all_stopped, any_stopped, all_done, any_done}
use Rattle.morris_moves.proofs.ValueLaws.{won_now, lost_next, won_next}
use Rattle.morris_moves.proofs.look_ahead.+look_ahead.Goals as goal

pub is_lost-returns-then-plies-eq0 : goal.is_lost-returns-then-plies-eq0
is_lost-returns-then-plies-eq0 g t c =
    let none : c.args.plies ≡ 0 = c.if-plies-eq0.true in
    c.is_blocked.ensures ∙ ap (λ n. is_lost n g.B.Geometry.shape c.args.position.now) (sym none)

pub is_lost-returns-then-not-is_won : goal.is_lost-returns-then-not-is_won
is_lost-returns-then-not-is_won g t c =
    let some : 0 < c.args.plies = omega arith in
    let fails : is_won (c.args.plies - 1) g.B.Geometry.shape (result_of c.args.position.now c.in-Some.m) ≡ false =
    rw (← c.play.ensures) (sym c.is_won.ensures ∙ c.if-not-is_won.true) in
    sym (lost_next g.B.Geometry.shape c.args.position.now c.args.plies some
    ∙ all_stopped (λ m. is_won (c.args.plies - 1) g.B.Geometry.shape (result_of c.args.position.now m)) _ c.loop-m.yielded c.in-Some.m _
    (rw c.in-Some.ensures.steps at c.loop-m.invariant.listed) fails)

pub is_lost-returns : goal.is_lost-returns
is_lost-returns g t c =
    let some : 0 < c.args.plies = omega arith in
    sym (lost_next g.B.Geometry.shape c.args.position.now c.args.plies some
    ∙ all_done (λ m. is_won (c.args.plies - 1) g.B.Geometry.shape (result_of c.args.position.now m)) _ c.loop-m.yielded _
    c.loop-m.invariant.listed c.in-None.ensures.steps.0 c.loop-m.invariant.so_far)

pub is_won-returns-then-plies-eq0 : goal.is_won-returns-then-plies-eq0
is_won-returns-then-plies-eq0 g t c = sym (won_now g.B.Geometry.shape c.args.position.now c.args.plies c.if-plies-eq0.true)

pub is_won-returns-then-is_lost : goal.is_won-returns-then-is_lost
is_won-returns-then-is_lost g t c =
    let some : 0 < c.args.plies = omega arith in
    let holds : is_lost (c.args.plies - 1) g.B.Geometry.shape (result_of c.args.position.now c.in-Some.m) ≡ true =
    rw (← c.play.ensures) (sym c.is_lost.ensures ∙ c.if-is_lost.true) in
    sym (won_next g.B.Geometry.shape c.args.position.now c.args.plies some
    ∙ any_stopped (λ m. is_lost (c.args.plies - 1) g.B.Geometry.shape (result_of c.args.position.now m)) _ c.loop-m.yielded c.in-Some.m _
    (rw c.in-Some.ensures.steps at c.loop-m.invariant.listed) holds)

pub is_won-returns : goal.is_won-returns
is_won-returns g t c =
    let some : 0 < c.args.plies = omega arith in
    sym (won_next g.B.Geometry.shape c.args.position.now c.args.plies some
    ∙ any_done (λ m. is_lost (c.args.plies - 1) g.B.Geometry.shape (result_of c.args.position.now m)) _ c.loop-m.yielded _
    c.loop-m.invariant.listed c.in-None.ensures.steps.0 c.loop-m.invariant.so_far)
