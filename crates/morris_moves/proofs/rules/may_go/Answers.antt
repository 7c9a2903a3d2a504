use Rattle.std.proofs.Common.{◌≡◌, ◌&&◌, ◌||◌, not, true, false, sym, ap, ◌∙◌}
use Rattle.std.proofs.lemmas.Bool.{lt-ltb}
use Rattle.morris_board.specs.Sets.{has, count_of}
use Rattle.morris_moves.specs.Rules.{goes}
use Rattle.morris_moves.proofs.MaskLaws.{may_go-not, may_go-vacant}
use Rattle.morris_moves.proofs.rules.may_go.Goals as goal

pub returns-then-has : goal.returns-then-has
returns-then-has g c =
    let stands : (has c.args.position.now.own c.args.to || has c.args.position.now.other c.args.to) ≡ true =
    rw (← c.own-own.ensures.points, ← c.other.ensures.points) (sym (c.union.ensures c.args.to) ∙ (sym c.has.ensures ∙ c.if-has.true)) in
    sym (may_go-not g.B.Geometry.shape c.args.position.now c.args.from c.args.to (ap not stands))

pub returns : goal.returns
returns g c =
    let stands : (has c.args.position.now.own c.args.to || has c.args.position.now.other c.args.to) ≡ false =
    rw (← c.own-own.ensures.points, ← c.other.ensures.points) (sym (c.union.ensures c.args.to) ∙ (sym c.has.ensures ∙ c.if-has.false)) in
    let stones : c.count.result ≡ count_of c.args.position.now.own = c.count.ensures.value ∙ ap count_of c.own-own.ensures.points in
    let goes : has c.steps.result c.args.to ≡ goes g.B.Geometry.shape (count_of c.args.position.now.own) c.args.from c.args.to =
    rw (← stones) (c.steps.ensures c.args.to
    ∙ ap (λ x. x && goes g.B.Geometry.shape c.count.result c.args.from c.args.to) (lt-ltb c.args.to g.B.Geometry.POINTS c.requires.end)) in
    c.has-2.ensures ∙ (goes ∙ sym (may_go-vacant g.B.Geometry.shape c.args.position.now c.args.from c.args.to (ap not stands)))
