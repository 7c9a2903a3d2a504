use Rattle.std.proofs.Common.{◌≡◌, ◌&&◌, ◌||◌, Bool, true, false, eqb, refl, sym, ap, ◌∙◌}
use Rattle.morris_board.specs.Sets.{has}
use Rattle.morris_board.proofs.PointsLaws.{has-with}
use Rattle.morris_pairs.proofs.numbered_row.with_where.Goals as goal

and_true : (x : Bool) → (x && true) ≡ x
and_true true = refl
and_true false = refl

pub returns-then-here : goal.returns-then-here
returns-then-here c = λ v.
    ap (λ s. has s v) c.with.ensures
    ∙ (has-with c.args.set c.args.number v
    ∙ ap (λ x. has c.args.set v || x) (sym (ap (λ h. eqb v c.args.number && h) c.if-here.true ∙ and_true (eqb v c.args.number))))
