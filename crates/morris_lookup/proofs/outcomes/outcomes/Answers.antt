use Rattle.std.proofs.Common.{◌≡◌, [], ◌∷◌, ◌++◌, None, length, length-append, sym, ap, ◌∙◌, subst, arith}
use Rattle.std.specs.List.{Contains}
use Rattle.std.proofs.lemmas.Result.{err_from_is_err_and}
use Rattle.morris_moves.specs.Rules.{moves_of, result_of}
use Rattle.morris_probe.proofs.Listed.{listed_next, listed_all}
use Rattle.morris_lookup.proofs.OutcomeLaws.{each_more, steps_more, stops_there}
use Rattle.morris_lookup.specs.FileSets.{missing_file}
use Rattle.morris_lookup.specs.Outcomes.{IsOutcome}
use Rattle.morris_lookup.proofs.outcomes.outcomes.Goals as goal

pub loop-m-preserved : goal.loop-m-preserved
loop-m-preserved g c =
    let pushed : c.push.new.self.items ≡ c.loop-m.outcomes.items ++ c.in_ok-outcome.outcome ∷ [] = rw c.unwrap.ensures at c.push.ensures.items in
    record {
      listed = listed_next _ _ _ _ _ c.loop-m.invariant.listed c.in-Some.ensures.steps;
      steps = steps_more c.loop-m.outcomes.items _ c.in_ok-outcome.outcome _ c.in-Some.m pushed c.loop-m.invariant.steps c.in_ok-outcome.ensures.step;
      reported = λ o h. each_more (IsOutcome g.B.Geometry.shape c.args.tables.now c.args.position.now) c.loop-m.outcomes.items c.in_ok-outcome.outcome c.loop-m.invariant.reported
          c.in_ok-outcome.ensures.reported o (subst (λ os. Contains os o) pushed h);
      found =
          each_more (λ m. missing_file c.args.tables.now (result_of c.args.position.now m) ≡ None) c.loop-m.yielded c.in-Some.m c.loop-m.invariant.found
          (subst (λ m. missing_file c.args.tables.now (result_of c.args.position.now m) ≡ None) c.in_ok-outcome.ensures.step c.in_ok-outcome.ensures.reported.found);
      few = omega (
        arith,
        ap length pushed,
        length-append c.loop-m.outcomes.items (c.in_ok-outcome.outcome ∷ []),
        length-append c.loop-m.yielded (c.in-Some.m ∷ []),
        c.loop-m.invariant.few,
      );
      room = omega (arith, c.push.ensures.capacity, c.loop-m.invariant.room);
    }

pub returns-clause-listed : goal.returns-clause-listed
returns-clause-listed g c = c.loop-m.invariant.steps ∙ listed_all _ _ _ c.loop-m.invariant.listed c.in-None.ensures.steps.0

-- the first move after which there is no value
pub returns-in_err-outcome-clause-refused : goal.returns-in_err-outcome-clause-refused
returns-in_err-outcome-clause-refused g c =
    let failed = err_from_is_err_and c.from_residual-in_err-outcome.result c.from_residual-in_err-outcome.ensures.1 in
    let split : c.loop-m.yielded ++ (c.in-Some.m ∷ c.next.new.self) ≡ moves_of g.B.Geometry.shape c.args.position.now =
    ap (λ rest. c.loop-m.yielded ++ rest) (sym c.in-Some.ensures.steps) ∙ c.loop-m.invariant.listed in
    rw (failed.1, failed.2)
    (stops_there _ g.B.Geometry.shape c.args.tables.now c.args.position.now c.loop-m.yielded c.next.new.self c.in-Some.m split c.loop-m.invariant.found
    c.in_err-outcome.field-0.0 c.in_err-outcome.ensures.refused)
