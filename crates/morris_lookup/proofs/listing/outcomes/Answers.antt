use Rattle.std.proofs.Common.{◌≡◌, ◌<◌, ◌+◌, [], ◌∷◌, ◌++◌, length, take, set, Ok, refl, sym, ap, subst, ◌∙◌, arith, length-append, length-set, rules}
use Rattle.std.proofs.lemmas.Result.{err_from_is_err_and}
use Rattle.std.proofs.lemmas.List.{take_more_set}
use Rattle.morris_moves.specs.Rules.{moves_of}
use Rattle.morris_probe.proofs.Listed.{listed_next, listed_all}
use Rattle.morris_lookup.specs.Views.{contents}
use Rattle.morris_lookup.specs.Listing.{outcomes_said, AreExactOutcomes}
use Rattle.morris_lookup.proofs.ListingLaws.{said-more, said-stops, said-none, exact_more}
use Rattle.morris_lookup.proofs.OutcomeLaws.{move_there}
use Rattle.morris_lookup.proofs.listing.outcomes.Goals as goal

pub returns-then-out-move_count-clause-room : goal.returns-then-out-move_count-clause-room
returns-then-out-move_count-clause-room g c = λ less. refl

pub returns-then-out-move_count-clause-refused : goal.returns-then-out-move_count-clause-refused
returns-then-out-move_count-clause-refused g c = λ lists_fit fits. absurd (omega (arith, fits, c.if-out-move_count.true, c.move_count.ensures))

pub loop-m-init : goal.loop-m-init
loop-m-init g c = record {
  listed = search rules;
  done = refl;
  room = omega (arith, c.if-out-move_count.false, c.move_count.ensures);
  said = λ lists_fit. said-none g.B.Geometry.shape (contents c.args.files.now) c.args.position.now;
  exact = λ lists_fit exact. tt;
}

pub returns-in_err-out-clause-count : goal.returns-in_err-out-clause-count
returns-in_err-out-clause-count g c = let failed = err_from_is_err_and c.from_residual.result c.from_residual.ensures.1 in rw failed.1 tt

pub returns-in_err-out-clause-room : goal.returns-in_err-out-clause-room
returns-in_err-out-clause-room g c = λ less. absurd (omega (arith, less, c.loop-m.invariant.room, c.loop-m.auto.out))

pub returns-in_err-out-clause-said : goal.returns-in_err-out-clause-said
returns-in_err-out-clause-said g c = λ lists_fit fits. let failed = err_from_is_err_and c.from_residual.result c.from_residual.ensures.1 in rw failed.1 tt

pub returns-in_err-out-clause-exact : goal.returns-in_err-out-clause-exact
returns-in_err-out-clause-exact g c = λ lists_fit exact. let failed = err_from_is_err_and c.from_residual.result c.from_residual.ensures.1 in rw failed.1 tt

pub returns-in_err-out-clause-refused : goal.returns-in_err-out-clause-refused
returns-in_err-out-clause-refused g c = λ lists_fit fits.
    let failed = err_from_is_err_and c.from_residual.result c.from_residual.ensures.1 in
    rw (failed.1, failed.2)
    (said-stops g.B.Geometry.shape (contents c.args.files.now) c.args.position.now c.loop-m.yielded c.in-Some.m c.next.new.self _ (take c.loop-m.done c.loop-m.out) c.in_err-out.field-0.0 (c.loop-m.invariant.said lists_fit)
    (c.in_err-out.ensures.said lists_fit) (listed_next _ _ _ _ _ c.loop-m.invariant.listed c.in-Some.ensures.steps))

pub bounds-out-done : goal.bounds-out-done
bounds-out-done g c =
    let whole : (c.loop-m.yielded ++ c.in-Some.m ∷ []) ++ c.next.new.self ≡ moves_of g.B.Geometry.shape c.args.position.now = listed_next _ _ _ _ _ c.loop-m.invariant.listed c.in-Some.ensures.steps in
    omega (
      arith,
      ap length whole,
      length-append (c.loop-m.yielded ++ c.in-Some.m ∷ []) c.next.new.self,
      length-append c.loop-m.yielded (c.in-Some.m ∷ []),
      c.loop-m.invariant.done,
      c.loop-m.invariant.room,
    )

pub loop-m-preserved : goal.loop-m-preserved
loop-m-preserved g c =
    let inside : c.loop-m.done < length c.loop-m.out = bounds-out-done g c in
    let written : take (c.loop-m.done + 1) (set c.loop-m.out c.loop-m.done c.in_ok-out.field-0) ≡ take c.loop-m.done c.loop-m.out ++ c.in_ok-out.field-0 ∷ [] =
    take_more_set c.loop-m.out c.loop-m.done c.in_ok-out.field-0 inside in
    let split : c.loop-m.yielded ++ (c.in-Some.m ∷ c.next.new.self) ≡ moves_of g.B.Geometry.shape c.args.position.now =
    ap (λ rest. c.loop-m.yielded ++ rest) (sym c.in-Some.ensures.steps) ∙ c.loop-m.invariant.listed in
    record {
      listed = listed_next _ _ _ _ _ c.loop-m.invariant.listed c.in-Some.ensures.steps;
      done = omega (arith, length-append c.loop-m.yielded (c.in-Some.m ∷ []), c.loop-m.invariant.done);
      room = omega (arith, length-set c.loop-m.out c.loop-m.done c.in_ok-out.field-0, c.loop-m.invariant.room);
      said = λ lists_fit.
          said-more g.B.Geometry.shape (contents c.args.files.now) c.args.position.now c.loop-m.yielded c.in-Some.m (take c.loop-m.done c.loop-m.out) c.in_ok-out.field-0 (c.loop-m.invariant.said lists_fit) (c.in_ok-out.ensures.said lists_fit)
          ∙ ap (λ os. Ok os) (sym written);
      exact = λ lists_fit exact.
          subst (AreExactOutcomes g.B.Geometry.shape c.args.position.now (c.loop-m.yielded ++ c.in-Some.m ∷ [])) (sym written)
          (exact_more g.B.Geometry.shape c.args.position.now c.loop-m.yielded (take c.loop-m.done c.loop-m.out) c.in-Some.m c.in_ok-out.field-0 (c.loop-m.invariant.exact lists_fit exact)
          (c.in_ok-out.ensures.exact lists_fit (exact c.in-Some.m (move_there c.loop-m.yielded c.next.new.self _ c.in-Some.m split))));
    }

pub returns-clause-count : goal.returns-clause-count
returns-clause-count g c = c.loop-m.invariant.done ∙ ap length (listed_all _ _ _ c.loop-m.invariant.listed c.in-None.ensures.steps.0)

pub returns-clause-said : goal.returns-clause-said
returns-clause-said g c = λ lists_fit fits.
    ap (outcomes_said g.B.Geometry.shape (contents c.args.files.now) c.args.position.now) (sym (listed_all _ _ _ c.loop-m.invariant.listed c.in-None.ensures.steps.0)) ∙ c.loop-m.invariant.said lists_fit

pub returns-clause-exact : goal.returns-clause-exact
returns-clause-exact g c = λ lists_fit exact.
    subst (λ ms. AreExactOutcomes g.B.Geometry.shape c.args.position.now ms (take c.loop-m.done c.loop-m.out)) (listed_all _ _ _ c.loop-m.invariant.listed c.in-None.ensures.steps.0)
    (c.loop-m.invariant.exact lists_fit exact)

pub returns-clause-room : goal.returns-clause-room
returns-clause-room g c = λ less. absurd (omega (arith, less, c.loop-m.invariant.room, c.loop-m.auto.out))
