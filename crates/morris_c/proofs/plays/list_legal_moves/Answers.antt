use Rattle.std.proofs.Common.{w32, to_z, of_z, SFits, rules, ◌≡◌, refl, ap, subst, ◌∙◌, arith}
use Rattle.std.specs.Prelude.{pos}
use Rattle.std.proofs.lemmas.Int.{to_z-of_z}
use Rattle.morris_board.specs.Positions.{sides}
use Rattle.morris_c.specs.Statuses.{mask_status}
use Rattle.morris_c.specs.Plays.{ListsLegalMoves}
use Rattle.morris_c.proofs.CallLaws.{one_fault, no_fault, not_done, mask_some}
use Rattle.morris_c.proofs.plays.list_legal_moves.Goals as goal

pub returns-in-Err : goal.returns-in-Err
returns-in-Err g c =
    let fits : SFits w32 c.mask_status.result = search rules in
    let unchanged : to_z w32 (of_z w32 c.mask_status.result) ≡ pos (mask_status c.in-Err.fault) = to_z-of_z w32 c.mask_status.result fits ∙ c.mask_status.ensures in
    record {
      refused = λ fault r. (
        unchanged ∙ ap (λ f. pos (mask_status f)) (one_fault g.B.Geometry.shape (sides c.args.own c.args.other) c.in-Err.fault fault c.in-Err.ensures.refused r),
        refl,
      );
      room = λ position less. absurd (no_fault g.B.Geometry.shape (sides c.args.own c.args.other) c.in-Err.fault position c.in-Err.ensures.refused);
      listed = λ position enough. absurd (no_fault g.B.Geometry.shape (sides c.args.own c.args.other) c.in-Err.fault position c.in-Err.ensures.refused);
      counted = λ done. absurd (not_done _ (mask_some c.in-Err.fault) _ unchanged done);
      uncounted = λ other. refl;
    }

pub returns-in-Some : goal.returns-in-Some
returns-in-Some g c =
    subst (λ s. ListsLegalMoves g.B.Geometry.shape s (pos 0) c.args.out.now c.write_moves.new.out c.args.count.now c.in-Some.done) c.in-Ok.ensures.made
    (record {
      refused = λ fault r. absurd (no_fault g.B.Geometry.shape c.in-Ok.position fault c.in-Ok.ensures.lawful r);
      room = λ position less. absurd (omega (arith, less, c.in-Some.ensures.room));
      listed = λ position enough. (refl, c.in-Some.ensures.listed);
      counted = λ done. c.in-Some.ensures.count;
      uncounted = λ other. absurd (other refl);
    })

pub returns-in-None : goal.returns-in-None
returns-in-None g c =
    subst (λ s. ListsLegalMoves g.B.Geometry.shape s (pos 7) c.args.out.now c.write_moves.new.out c.args.count.now c.args.count.now) c.in-Ok.ensures.made
    (record {
      refused = λ fault r. absurd (no_fault g.B.Geometry.shape c.in-Ok.position fault c.in-Ok.ensures.lawful r);
      room = λ position less. (refl, c.in-None.ensures.room.1);
      listed = λ position enough. absurd (omega (arith, enough, c.in-None.ensures.room.0));
      counted = λ done. absurd (not_done 7 (omega arith) _ refl done);
      uncounted = λ other. refl;
    })
