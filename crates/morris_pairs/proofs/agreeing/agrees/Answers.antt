use Rattle.std.proofs.Common.{◌≡◌, refl, sym, ap, subst, ◌∙◌}
use Rattle.morris_index.specs.Pairs.{IsPair}
use Rattle.morris_pairs.specs.Agreement.{code_from, result_codes}
use Rattle.morris_pairs.specs.Scores.{code_of_score}
use Rattle.morris_pairs.proofs.AgreementLaws.{agrees_at}
use Rattle.morris_pairs.proofs.agreeing.agrees.Goals as goal
use Rattle.morris_pairs.proofs.agreeing.agrees.Goals.{in-Some, in-None}

pub returns : goal.returns
returns g c =
    let best : code_of_score c.match-best_at_once.best ≡ code_from (result_codes g.B.Geometry.shape c.args.raw.now c.args.position.now) =
    elim c.match-best_at_once.branch [
      | in-Some w ↦ ap code_of_score w.best-is ∙ w.in-Some.ensures
      | in-None w ↦ ap code_of_score w.best-is ∙ w.best_after-best.ensures
    ] in
    agrees_at g.B.Geometry.shape g.met.B.Geometry.is_lawful g.met.B.Geometry.has_symmetries g.B.Geometry.POINTS g.met.B.Geometry.point_count
    c.args.raw.now (subst (λ n. IsPair n c.args.raw.now.pair) (sym g.met.B.Geometry.point_count) c.pair.ensures.lawful)
    c.args.position.now c.requires.lawful c.requires.counts c.requires.own c.args.index c.requires.at c.from.result c.code_of_score.result _ refl
    (c.from.ensures ∙ c.code.ensures) (c.code_of_score.ensures ∙ best)
