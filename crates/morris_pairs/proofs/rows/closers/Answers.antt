use Rattle.std.proofs.Common.{ap₂, ◌||◌, ◌∙◌}
use Rattle.morris_pairs.proofs.ComerLaws.{closers-both}
use Rattle.morris_pairs.proofs.rows.closers.Goals as goal

pub returns : goal.returns
returns g c = λ u.
    c.union.ensures u
    ∙ (ap₂ (λ x y. x || y) (c.fillers.ensures u) (c.fillers-2.ensures u)
    ∙ closers-both g.B.Geometry.shape c.args.own c.args.to c.mills_through-first.result.0 c.mills_through-first.result.1 c.mills_through-first.ensures u)
