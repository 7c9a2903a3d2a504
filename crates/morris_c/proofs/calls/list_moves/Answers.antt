use Rattle.std.proofs.Common.{w32, to_z, of_z, SFits, rules, ◌≡◌, ℕ, Result, Ok, Err, refl, sym, ap, subst, ◌∙◌}
use Rattle.std.specs.Prelude.{pos}
use Rattle.std.proofs.lemmas.Int.{to_z-of_z}
use Rattle.morris_board.specs.Positions.{sides}
use Rattle.morris_lookup.specs.declared.fault.ViewFault.{ViewFault}
use Rattle.morris_lookup.specs.declared.fault.ViewFault.TheVariants.{Room}
use Rattle.morris_lookup.specs.Views.{contents}
use Rattle.morris_c.specs.Statuses.{mask_status, view_status}
use Rattle.morris_c.specs.Calls.{ListsMoves, WritesMoves}
use Rattle.morris_c.proofs.CallLaws.{one_fault, no_fault, not_done, mask_some, view_some}
use Rattle.morris_c.proofs.calls.list_moves.Goals as goal

never : (done : ℕ) → ◌≡◌ {A = Result ℕ ViewFault} (Ok done) (Err Room) → ⊥
never done e = cc

same : (fault : ViewFault) → ◌≡◌ {A = Result ℕ ViewFault} (Err fault) (Err Room) → fault ≡ Room
same fault e = cc

pub returns-in-Err : goal.returns-in-Err
returns-in-Err g c =
    let fits : SFits w32 c.mask_status.result = search rules in
    let unchanged : to_z w32 (of_z w32 c.mask_status.result) ≡ pos (mask_status c.in-Err.fault) = to_z-of_z w32 c.mask_status.result fits ∙ c.mask_status.ensures in
    record {
      refused = λ fault r. (
        unchanged ∙ ap (λ f. pos (mask_status f)) (one_fault g.B.Geometry.shape (sides c.args.own c.args.other) c.in-Err.fault fault c.in-Err.ensures.refused r),
        refl,
      );
      room = λ position less. absurd (no_fault g.B.Geometry.shape (sides c.args.own c.args.other) c.in-Err.fault position c.in-Err.ensures.refused);
      said = λ position serve fits. absurd (no_fault g.B.Geometry.shape (sides c.args.own c.args.other) c.in-Err.fault position c.in-Err.ensures.refused);
      exact = λ position serve exact done. absurd (no_fault g.B.Geometry.shape (sides c.args.own c.args.other) c.in-Err.fault position c.in-Err.ensures.refused);
      counted = λ done. absurd (not_done _ (mask_some c.in-Err.fault) _ unchanged done);
      uncounted = λ other. refl;
    }

pub returns-in-Ok-outcomes : goal.returns-in-Ok-outcomes
returns-in-Ok-outcomes g c =
    subst (λ s. ListsMoves g.B.Geometry.shape c.args.words.now (contents c.args.files.now) s (pos 0) c.args.out.now c.outcomes.new.out c.args.count.now c.in-Ok-outcomes.done)
    c.in-Ok.ensures.made
    (record {
      refused = λ fault r. absurd (no_fault g.B.Geometry.shape c.in-Ok.position fault c.in-Ok.ensures.lawful r);
      room = λ position less. absurd (never c.in-Ok-outcomes.done (c.in-Ok-outcomes.ensures.room less));
      said = λ position serve fits.
          subst (λ r. WritesMoves r (pos 0) c.outcomes.new.out c.in-Ok-outcomes.done) (sym (c.in-Ok-outcomes.ensures.said serve fits)) (refl, refl);
      exact = λ position serve exact done. c.in-Ok-outcomes.ensures.exact serve exact;
      counted = λ done. c.in-Ok-outcomes.ensures.count;
      uncounted = λ other. absurd (other refl);
    })

pub returns-in-Err-outcomes : goal.returns-in-Err-outcomes
returns-in-Err-outcomes g c =
    let fits : SFits w32 c.view_status.result = search rules in
    let unchanged : to_z w32 (of_z w32 c.view_status.result) ≡ pos (view_status c.in-Err-outcomes.fault) = to_z-of_z w32 c.view_status.result fits ∙ c.view_status.ensures in
    subst (λ s. ListsMoves g.B.Geometry.shape c.args.words.now (contents c.args.files.now) s (to_z w32 (of_z w32 c.view_status.result)) c.args.out.now c.outcomes.new.out c.args.count.now
    c.args.count.now)
    c.in-Ok.ensures.made
    (record {
      refused = λ fault r. absurd (no_fault g.B.Geometry.shape c.in-Ok.position fault c.in-Ok.ensures.lawful r);
      room = λ position less. unchanged ∙ ap (λ f. pos (view_status f)) (same c.in-Err-outcomes.fault (c.in-Err-outcomes.ensures.room less));
      said = λ position serve fits.
          subst (λ r. WritesMoves r (to_z w32 (of_z w32 c.view_status.result)) c.outcomes.new.out c.args.count.now) (sym (c.in-Err-outcomes.ensures.refused serve fits)) unchanged;
      exact = λ position serve exact done. absurd (not_done _ (view_some c.in-Err-outcomes.fault) _ unchanged done);
      counted = λ done. absurd (not_done _ (view_some c.in-Err-outcomes.fault) _ unchanged done);
      uncounted = λ other. refl;
    })
