-- The best moves are those among the outcomes of all legal moves.
use Rattle.std.proofs.Common.{◌≡◌, ◌∙◌, sym, ap, subst, inl, inr}
use Rattle.std.proofs.lemmas.Result.{err_from_is_err_and}
use Rattle.morris_moves.specs.Rules.{moves_of}
use Rattle.morris_probe.proofs.BestLaws.{best_all}
use Rattle.morris_probe.proofs.SomeBest.{some_listed}
use Rattle.morris_lookup.specs.Outcomes.{ArePicked, best_among}
use Rattle.morris_lookup.proofs.OutcomeLaws.{best_told, picked_among, same_found, values_told}
use Rattle.morris_lookup.proofs.best.best.Goals as goal

pub returns-clause-said : goal.returns-clause-said
returns-clause-said g c =
    let board = g.B.Geometry.shape in
    let files = c.args.tables.now in
    let s = c.args.position.now in
    let found = c.in_ok-found.found in
    let os = c.in_ok-outcomes.outcomes.items in
    let is : c.in_ok-best.best.items ≡ best_among found os = c.in_ok-best.ensures ∙ ap (best_among found) c.as_slice.ensures.value in
    record {
      value = found;
      said = λ other e. same_found found other (c.in_ok-found.ensures.said other e);
      picked =
          subst (λ best. ArePicked board files s found (moves_of board s) best) (sym is)
          (subst (λ ms. ArePicked board files s found ms (best_among found os)) c.in_ok-outcomes.ensures.listed (picked_among board files s found os c.in_ok-outcomes.ensures.reported));
    }

pub returns-clause-best : goal.returns-clause-best
returns-clause-best g c = λ exact after.
    let board = g.B.Geometry.shape in
    let s = c.args.position.now in
    let found = c.in_ok-found.found in
    let best = c.in_ok-best.best.items in
    let os = c.in_ok-outcomes.outcomes.items in
    let is : best ≡ best_among found os = c.in_ok-best.ensures ∙ ap (best_among found) c.as_slice.ensures.value in
    let here = c.in_ok-found.ensures.exact exact in
    best_all board s found best here (best_told board c.args.tables.now s os c.in_ok-outcomes.ensures.listed c.in_ok-outcomes.ensures.reported after found best is here)

pub returns-clause-some : goal.returns-clause-some
returns-clause-some g c = λ exact after.
    let board = g.B.Geometry.shape in
    let files = c.args.tables.now in
    let s = c.args.position.now in
    let found = c.in_ok-found.found in
    let best = c.in_ok-best.best.items in
    let os = c.in_ok-outcomes.outcomes.items in
    let is : best ≡ best_among found os = c.in_ok-best.ensures ∙ ap (best_among found) c.as_slice.ensures.value in
    let here = c.in_ok-found.ensures.exact exact in
    some_listed board s found best here (values_told board files s os c.in_ok-outcomes.ensures.listed c.in_ok-outcomes.ensures.reported after)
    (best_told board files s os c.in_ok-outcomes.ensures.listed c.in_ok-outcomes.ensures.reported after found best is here)

-- ---- why there are none

pub returns-in_err-found-clause-refused : goal.returns-in_err-found-clause-refused
returns-in_err-found-clause-refused g c =
    let failed = err_from_is_err_and c.from_residual.result c.from_residual.ensures.1 in
    rw (failed.1, failed.2) (inl c.in_err-found.ensures.refused)

pub returns-in_err-outcomes-clause-refused : goal.returns-in_err-outcomes-clause-refused
returns-in_err-outcomes-clause-refused g c =
    let failed = err_from_is_err_and c.from_residual-in_err-outcomes.result c.from_residual-in_err-outcomes.ensures.1 in
    rw (failed.1, failed.2) (inr (c.in_ok-found.ensures.refused, c.in_err-outcomes.ensures.refused))

pub returns-in_err-best-clause-refused : goal.returns-in_err-best-clause-refused
returns-in_err-best-clause-refused g c =
    let failed = err_from_is_err_and c.from_residual-in_err-best.result c.from_residual-in_err-best.ensures.1 in
    rw (failed.1, failed.2) (inr (c.in_ok-found.ensures.refused, tt))
