use Rattle.std.proofs.Common.{w32, to_z, of_z, SFits, rules, ◌≡◌, refl, ap, subst, ◌∙◌}
use Rattle.std.specs.Prelude.{pos}
use Rattle.std.proofs.lemmas.Bool.{both_ways}
use Rattle.std.proofs.lemmas.Int.{to_z-of_z}
use Rattle.morris_board.specs.Positions.{sides}
use Rattle.morris_lookup.specs.Views.{contents}
use Rattle.morris_c.specs.Statuses.{mask_status, view_status}
use Rattle.morris_c.specs.Calls.{LooksUp, WritesValue}
use Rattle.morris_c.proofs.CallLaws.{one_fault, no_fault, not_done, view_some}
use Rattle.morris_c.proofs.calls.look_up.Goals as goal

pub returns-in-Err : goal.returns-in-Err
returns-in-Err g c =
    let fits : SFits w32 c.mask_status.result = search rules in
    let unchanged : to_z w32 (of_z w32 c.mask_status.result) ≡ pos (mask_status c.in-Err.fault) = to_z-of_z w32 c.mask_status.result fits ∙ c.mask_status.ensures in
    record {
      refused = λ fault r. (
        unchanged ∙ ap (λ f. pos (mask_status f)) (one_fault g.B.Geometry.shape (sides c.args.own c.args.other) c.in-Err.fault fault c.in-Err.ensures.refused r),
        refl,
      );
      said = λ position serve. absurd (no_fault g.B.Geometry.shape (sides c.args.own c.args.other) c.in-Err.fault position c.in-Err.ensures.refused);
      exact = λ position serve exact done. absurd (no_fault g.B.Geometry.shape (sides c.args.own c.args.other) c.in-Err.fault position c.in-Err.ensures.refused);
      unready = λ position needs bad done. no_fault g.B.Geometry.shape (sides c.args.own c.args.other) c.in-Err.fault position c.in-Err.ensures.refused;
    }

pub returns-in-Ok-value : goal.returns-in-Ok-value
returns-in-Ok-value g c =
    subst (λ s. LooksUp g.B.Geometry.shape c.args.words.now (contents c.args.files.now) s (pos 0) c.args.out.now c.value_record.result) c.in-Ok.ensures.made
    (record {
      refused = λ fault r. absurd (no_fault g.B.Geometry.shape c.in-Ok.position fault c.in-Ok.ensures.lawful r);
      said = λ position serve.
          subst (λ r. WritesValue r (pos 0) c.args.out.now c.value_record.result) (c.in-Ok-value.ensures.said serve) (refl, c.value_record.ensures);
      exact = λ position serve exact done. (c.in-Ok-value.value, c.in-Ok-value.ensures.exact serve exact, c.value_record.ensures);
      unready = λ position needs bad done. both_ways _ bad (c.in-Ok-value.ensures.unready needs);
    })

pub returns-in-Err-value : goal.returns-in-Err-value
returns-in-Err-value g c =
    let fits : SFits w32 c.view_status.result = search rules in
    let unchanged : to_z w32 (of_z w32 c.view_status.result) ≡ pos (view_status c.in-Err-value.fault) = to_z-of_z w32 c.view_status.result fits ∙ c.view_status.ensures in
    subst (λ s. LooksUp g.B.Geometry.shape c.args.words.now (contents c.args.files.now) s (to_z w32 (of_z w32 c.view_status.result)) c.args.out.now c.args.out.now) c.in-Ok.ensures.made
    (record {
      refused = λ fault r. absurd (no_fault g.B.Geometry.shape c.in-Ok.position fault c.in-Ok.ensures.lawful r);
      said = λ position serve.
          subst (λ r. WritesValue r (to_z w32 (of_z w32 c.view_status.result)) c.args.out.now c.args.out.now) (c.in-Err-value.ensures.said serve) (unchanged, refl);
      exact = λ position serve exact done. absurd (not_done _ (view_some c.in-Err-value.fault) _ unchanged done);
      unready = λ position needs bad done. not_done _ (view_some c.in-Err-value.fault) _ unchanged done;
    })
