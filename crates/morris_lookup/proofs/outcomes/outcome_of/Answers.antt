use Rattle.std.proofs.Common.{subst}
use Rattle.std.proofs.lemmas.Result.{err_from_is_err_and}
use Rattle.morris_lookup.specs.FileSets.{IsValueRefusal}
use Rattle.morris_lookup.proofs.OutcomeLaws.{outcome_told}
use Rattle.morris_lookup.proofs.outcomes.outcome_of.Goals as goal

pub returns-clause-reported : goal.returns-clause-reported
returns-clause-reported g c =
    outcome_told _ g.B.Geometry.shape c.args.tables.now c.args.position.now c.play.result c.args.m c.play.ensures c.in_ok-next.next c.in_ok-next.ensures.refused c.in_ok-next.ensures.said
    c.in_ok-next.ensures.exact c.value_for_mover.result c.value_for_mover.ensures

pub returns-in_err-next-clause-refused : goal.returns-in_err-next-clause-refused
returns-in_err-next-clause-refused g c =
    let failed = err_from_is_err_and c.from_residual.result c.from_residual.ensures.1 in
    rw (failed.1, failed.2)
    (subst (λ p. IsValueRefusal g.B.Geometry.shape c.args.tables.now p c.in_err-next.field-0.0) c.play.ensures c.in_err-next.ensures.refused)
