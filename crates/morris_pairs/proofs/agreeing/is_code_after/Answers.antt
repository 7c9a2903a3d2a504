use Rattle.std.proofs.Common.{◌≡◌, eqb, ap, ap₂, ◌∙◌}
use Rattle.morris_pairs.specs.Agreement.{code_from, result_codes}
use Rattle.morris_pairs.specs.Scores.{code_of_score}
use Rattle.morris_pairs.proofs.agreeing.is_code_after.Goals as goal
use Rattle.morris_pairs.proofs.agreeing.is_code_after.Goals.{in-Some, in-None}

pub returns : goal.returns
returns g c =
    let best : code_of_score c.match-best_at_once.best ≡ code_from (result_codes g.B.Geometry.shape c.args.raw.now c.args.position.now) =
    elim c.match-best_at_once.branch [
      | in-Some w ↦ ap code_of_score w.best-is ∙ w.in-Some.ensures
      | in-None w ↦ ap code_of_score w.best-is ∙ w.best_after-best.ensures
    ] in
    ap₂ eqb c.from.ensures (c.code_of_score.ensures ∙ best)
