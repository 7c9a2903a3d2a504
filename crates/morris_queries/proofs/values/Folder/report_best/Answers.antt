use Rattle.std.proofs.Common.{◌≡◌, ◌≤◌, ◌∙◌, Some, ap, arith, length, inl, sym}
use Rattle.std.proofs.lemmas.Result.{err_from_is_err_and}
use Rattle.morris_lookup.specs.Outcomes.{best_among, same_value}
use Rattle.morris_queries.specs.Reports.{value_from}
use Rattle.morris_queries.proofs.FolderLaws.{stays_on}
use Rattle.morris_queries.proofs.TellingLaws.{agreed, reported_refused_value, reported_refused_outcomes, reported_found, reported_disagrees, best_few}
use Rattle.morris_queries.proofs.values.Folder.report_best.Goals as goal

pub returns-in_err-value-clause-reported : goal.returns-in_err-value-clause-reported
returns-in_err-value-clause-reported g c = λ name files of.
    let failed = err_from_is_err_and c.from_residual.result c.from_residual.ensures.1 in
    rw (failed.1, failed.2)
    (reported_refused_value g.B.Geometry.shape name files c.args.position.now c.in_err-value.field-0.0
    (c.in_err-value.ensures.reported name files of))

pub returns-in_err-outcomes-clause-stays : goal.returns-in_err-outcomes-clause-stays
returns-in_err-outcomes-clause-stays g c = stays_on c.in_ok-value.ensures.stays c.in_err-outcomes.ensures.stays

pub returns-in_err-outcomes-clause-reported : goal.returns-in_err-outcomes-clause-reported
returns-in_err-outcomes-clause-reported g c = λ name files of.
    let failed = err_from_is_err_and c.from_residual-in_err-outcomes.result c.from_residual-in_err-outcomes.ensures.1 in
    rw (failed.1, failed.2)
    (reported_refused_outcomes g.B.Geometry.shape name files c.args.position.now c.in_err-outcomes.field-0.0 c.in_ok-value.value
    (agreed _ _ (c.in_ok-value.ensures.reported name files of)) (c.in_err-outcomes.ensures.reported name files (c.in_ok-value.ensures.stays.still name (Some files) of)))

pub returns-in_err-best-clause-stays : goal.returns-in_err-best-clause-stays
returns-in_err-best-clause-stays g c = stays_on c.in_ok-value.ensures.stays c.in_ok-outcomes.ensures.stays

pub returns-clause-stays : goal.returns-clause-stays
returns-clause-stays g c = stays_on c.in_ok-value.ensures.stays c.in_ok-outcomes.ensures.stays

pub returns-then-not-is_same-clause-reported : goal.returns-then-not-is_same-clause-reported
returns-then-not-is_same-clause-reported g c = λ name files of.
    let found = c.value_from.ensures ∙ ap value_from c.as_slice.ensures.value in
    inl (reported_disagrees g.B.Geometry.shape name files c.args.position.now c.in_ok-value.value c.in_ok-outcomes.outcomes.items
    (agreed _ _ (c.in_ok-value.ensures.reported name files of)) (c.in_ok-outcomes.ensures.reported name files (c.in_ok-value.ensures.stays.still name (Some files) of))
    (sym (ap (same_value c.in_ok-value.value) found) ∙ (sym c.is_same.ensures ∙ c.if-not-is_same.true)))

pub returns-clause-few : goal.returns-clause-few
returns-clause-few g c =
    let unchanged : c.in_ok-best.best.items ≡ best_among c.in_ok-value.value c.in_ok-outcomes.outcomes.items = rw c.as_slice-2.ensures.value at c.in_ok-best.ensures in
    let best : length c.in_ok-best.best.items ≤ length c.in_ok-outcomes.outcomes.items = omega (arith, ap length unchanged, best_few c.in_ok-value.value c.in_ok-outcomes.outcomes.items) in
    record {
      best = omega (arith, best, c.in_ok-outcomes.ensures.few);
      outcomes = c.in_ok-outcomes.ensures.few;
      line = omega (arith, ap length c.new.ensures.items);
    }

pub returns-clause-reported : goal.returns-clause-reported
returns-clause-reported g c = λ name files of.
    let found = c.value_from.ensures ∙ ap value_from c.as_slice.ensures.value in
    inl (reported_found g.B.Geometry.shape name files c.args.position.now c.in_ok-value.value c.in_ok-outcomes.outcomes.items
    (agreed _ _ (c.in_ok-value.ensures.reported name files of)) (c.in_ok-outcomes.ensures.reported name files (c.in_ok-value.ensures.stays.still name (Some files) of))
    c.in_ok-best.best.items c.new.result.items (rw c.as_slice-2.ensures.value at c.in_ok-best.ensures) c.new.ensures.items
    (sym (ap (same_value c.in_ok-value.value) found) ∙ (sym c.is_same.ensures ∙ c.if-not-is_same.false)))
