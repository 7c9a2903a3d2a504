use Rattle.std.proofs.Common.{Ok, sym, ap, subst, ◌∙◌}
use Rattle.std.specs.Result.{result_map_both}
use Rattle.std.proofs.lemmas.Result.{err_from_is_err_and}
use Rattle.morris_pairs.specs.Codes.{IsValue}
use Rattle.morris_lookup.specs.Records.{move_record}
use Rattle.morris_lookup.specs.Views.{contents, value_said, IsExactAt}
use Rattle.morris_lookup.specs.Outcomes.{value_for_mover}
use Rattle.morris_lookup.specs.Listing.{outcome_of}
use Rattle.morris_lookup.proofs.listing.outcome_of.Goals as goal

pub returns-in_err-next-clause-said : goal.returns-in_err-next-clause-said
unfolding outcome_of
returns-in_err-next-clause-said g c = λ lists_fit.
    let failed = err_from_is_err_and c.from_residual.result c.from_residual.ensures.1 in
    rw (failed.1, failed.2)
    (ap (result_map_both (λ next. move_record c.args.m (value_for_mover next)) (λ refusal. refusal)) (c.in_err-next.ensures.said lists_fit ∙ ap (value_said g.B.Geometry.shape (contents c.args.files.now)) c.play.ensures))

pub returns-clause-said : goal.returns-clause-said
unfolding outcome_of
returns-clause-said g c = λ lists_fit.
    ap (λ o. Ok o) (c.move_record.ensures ∙ ap (move_record c.args.m) c.value_for_mover.ensures)
    ∙ ap (result_map_both (λ next. move_record c.args.m (value_for_mover next)) (λ refusal. refusal)) (c.in_ok-next.ensures.said lists_fit ∙ ap (value_said g.B.Geometry.shape (contents c.args.files.now)) c.play.ensures)

pub returns-clause-exact : goal.returns-clause-exact
returns-clause-exact g c = λ lists_fit exact. record {
  next = c.in_ok-next.next;
  there =
      subst (λ p. IsValue g.B.Geometry.shape p c.in_ok-next.next) c.play.ensures
      (c.in_ok-next.ensures.exact lists_fit (subst (IsExactAt g.B.Geometry.shape (contents c.args.files.now)) (sym c.play.ensures) exact));
  is = c.move_record.ensures ∙ ap (move_record c.args.m) c.value_for_mover.ensures;
}
