use Rattle.std.proofs.Common.{◌∙◌, ap, rules, sym, Some, [], ◌∷◌, ◌++◌, append_assoc}
use Rattle.std.proofs.lemmas.Result.{err_from_is_err_and}
use Rattle.morris_moves.specs.Rules.{moves_of}
use Rattle.morris_queries.specs.Reports.{reported_outcomes}
use Rattle.morris_queries.proofs.FolderLaws.{stays_here, stays_on}
use Rattle.morris_queries.proofs.TellingLaws.{agreed, outcomes_refused, outcomes_more, outcomes_all, prepended-nil, steps_more}
use Rattle.morris_queries.proofs.values.Folder.outcomes.Goals as goal

pub loop-m-init : goal.loop-m-init
loop-m-init g c = record {
  listed = search rules;
  steps = search rules;
  stays = stays_here;
  reported = λ name files of. search (rules, prepended-nil);
}

pub returns-in_err-value-clause-stays : goal.returns-in_err-value-clause-stays
returns-in_err-value-clause-stays g c = stays_on c.loop-m.invariant.stays c.in_err-value.ensures.stays

pub returns-in_err-value-clause-reported : goal.returns-in_err-value-clause-reported
returns-in_err-value-clause-reported g c = λ name files of.
    let failed = err_from_is_err_and c.from_residual-in_err-value.result c.from_residual-in_err-value.ensures.1 in
    rw (failed.1, failed.2)
    (outcomes_refused g.B.Geometry.shape name files c.args.position.now c.loop-m.outcomes.items c.loop-m.m-iterator c.next.new.self c.in-Some.m
    (reported_outcomes g.B.Geometry.shape name files c.args.position.now (moves_of g.B.Geometry.shape c.args.position.now)) (c.loop-m.invariant.reported name files of)
    c.in-Some.ensures.steps c.in_err-value.field-0.0
    (rw c.play.ensures at (c.in_err-value.ensures.reported name files (c.loop-m.invariant.stays.still name (Some files) of))))

pub returns-in_err-push_or_refuse-clause-stays : goal.returns-in_err-push_or_refuse-clause-stays
returns-in_err-push_or_refuse-clause-stays g c = stays_on c.loop-m.invariant.stays c.in_ok-value.ensures.stays

pub loop-m-preserved : goal.loop-m-preserved
loop-m-preserved g c = record {
  listed = append_assoc c.loop-m.yielded (c.in-Some.m ∷ []) c.next.new.self ∙ (ap (λ rest. c.loop-m.yielded ++ rest) (sym c.in-Some.ensures.steps) ∙ c.loop-m.invariant.listed);
  steps = steps_more c.loop-m.outcomes.items c.push_or_refuse.new.list.items c.loop-m.yielded c.in-Some.m c.value_for_mover.result c.loop-m.invariant.steps c.in_ok-push_or_refuse.ensures;
  stays = stays_on c.loop-m.invariant.stays c.in_ok-value.ensures.stays;
  reported = λ name files of.
      outcomes_more g.B.Geometry.shape name files c.args.position.now c.loop-m.outcomes.items c.loop-m.m-iterator c.next.new.self c.in-Some.m
      (reported_outcomes g.B.Geometry.shape name files c.args.position.now (moves_of g.B.Geometry.shape c.args.position.now)) (c.loop-m.invariant.reported name files of)
      c.in-Some.ensures.steps c.in_ok-value.value c.value_for_mover.result c.push_or_refuse.new.list.items
      (agreed _ _ (rw c.play.ensures at (c.in_ok-value.ensures.reported name files (c.loop-m.invariant.stays.still name (Some files) of)))) c.value_for_mover.ensures c.in_ok-push_or_refuse.ensures;
}

pub returns-clause-reported : goal.returns-clause-reported
returns-clause-reported g c = λ name files of.
    outcomes_all g.B.Geometry.shape name files c.args.position.now c.loop-m.outcomes.items c.loop-m.m-iterator
    (reported_outcomes g.B.Geometry.shape name files c.args.position.now (moves_of g.B.Geometry.shape c.args.position.now)) (c.loop-m.invariant.reported name files of)
    c.in-None.ensures.steps.0
