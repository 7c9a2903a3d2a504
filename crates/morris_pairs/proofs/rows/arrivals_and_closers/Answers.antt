use Rattle.std.proofs.Common.{ap₂, sym, not, ◌&&◌, ◌∙◌}
use Rattle.morris_pairs.proofs.ComerLaws.{none_quiet, none_closing, some_quiet, some_closing}
use Rattle.morris_pairs.proofs.rows.arrivals_and_closers.Goals as goal

pub returns-then-has-clause-quiet : goal.returns-then-has-clause-quiet
returns-then-has-clause-quiet g c = none_quiet g.B.Geometry.shape c.args.own c.args.to (sym c.has.ensures ∙ c.if-has.true)

pub returns-then-has-clause-closing : goal.returns-then-has-clause-closing
returns-then-has-clause-closing g c = none_closing g.B.Geometry.shape c.args.own c.args.to (sym c.has.ensures ∙ c.if-has.true)

pub returns-clause-quiet : goal.returns-clause-quiet
returns-clause-quiet g c = λ u.
    c.difference.ensures u
    ∙ (ap₂ (λ x y. x && not y) (c.comers-comers.ensures u) (c.closers-closers.ensures u)
    ∙ some_quiet g.B.Geometry.shape c.args.own c.args.to (sym c.has.ensures ∙ c.if-has.false) u)

pub returns-clause-closing : goal.returns-clause-closing
returns-clause-closing g c = λ u.
    c.intersection.ensures u
    ∙ (ap₂ (λ x y. x && y) (c.comers-comers.ensures u) (c.closers-closers.ensures u)
    ∙ some_closing g.B.Geometry.shape c.args.own c.args.to (sym c.has.ensures ∙ c.if-has.false) u)
