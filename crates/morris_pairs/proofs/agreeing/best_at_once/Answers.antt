use Rattle.std.proofs.Common.{◌≡◌, Some, ap, ◌∙◌, arith}
use Rattle.morris_pairs.specs.Scores.{code_of_score}
use Rattle.morris_pairs.proofs.AgreementLaws.{added-now}
use Rattle.morris_pairs.proofs.WorthLaws.{code-score}
use Rattle.morris_pairs.proofs.agreeing.best_at_once.Goals as goal

pub returns-in-Some-eq0 : goal.returns-in-Some-eq0
returns-in-Some-eq0 g c =
    let now : c.in-Some-eq0.field-0 ≡ 0 = omega arith in
    ap code_of_score c.score_of.ensures.value
    ∙ code-score c.args.captures c.score_of.ensures.short
    ∙ added-now g.B.Geometry.shape c.args.raw.now c.args.position.now c.args.captures c.requires (c.in-Some-eq0.is ∙ ap (λ n. Some n) now)
