use Rattle.std.proofs.Common.{w32, to_z, of_z, SFits, rules, ◌≡◌, refl, sym, ap, ap₂, subst, ◌∙◌}
use Rattle.std.specs.Prelude.{pos}
use Rattle.std.specs.List.{Contains}
use Rattle.std.proofs.lemmas.Bool.{false≢true}
use Rattle.std.proofs.lemmas.Int.{to_z-of_z}
use Rattle.morris_board.specs.Positions.{sides}
use Rattle.morris_moves.specs.Rules.{moves_of, result_of}
use Rattle.morris_c.specs.Statuses.{mask_status}
use Rattle.morris_c.specs.Plays.{PlaysMove, move_named}
use Rattle.morris_c.proofs.CallLaws.{one_fault, no_fault}
use Rattle.morris_c.proofs.plays.play_move.Goals as goal

pub returns-in-Err : goal.returns-in-Err
returns-in-Err g c =
    let fits : SFits w32 c.mask_status.result = search rules in
    let unchanged : to_z w32 (of_z w32 c.mask_status.result) ≡ pos (mask_status c.in-Err.fault) = to_z-of_z w32 c.mask_status.result fits ∙ c.mask_status.ensures in
    record {
      refused = λ fault r. unchanged ∙ ap (λ f. pos (mask_status f)) (one_fault g.B.Geometry.shape (sides c.args.own c.args.other) c.in-Err.fault fault c.in-Err.ensures.refused r);
      illegal = λ position wrong. absurd (no_fault g.B.Geometry.shape (sides c.args.own c.args.other) c.in-Err.fault position c.in-Err.ensures.refused);
      played = λ position legal. absurd (no_fault g.B.Geometry.shape (sides c.args.own c.args.other) c.in-Err.fault position c.in-Err.ensures.refused);
      unchanged = λ other. refl;
    }

pub returns-then-not-is_legal : goal.returns-then-not-is_legal
returns-then-not-is_legal g c =
    subst (λ s. PlaysMove g.B.Geometry.shape s (move_named c.args.played.now) (pos 19) (sides c.args.next_own.now c.args.next_other.now) (sides c.args.next_own.now c.args.next_other.now))
    c.in-Ok.ensures.made
    (record {
      refused = λ fault r. absurd (no_fault g.B.Geometry.shape c.in-Ok.position fault c.in-Ok.ensures.lawful r);
      illegal = λ position wrong. refl;
      played = λ position legal.
          let listed : Contains (moves_of g.B.Geometry.shape c.in-Ok.position) c.move_named-m.result = subst (λ m. Contains (moves_of g.B.Geometry.shape c.in-Ok.position) m) (sym c.move_named-m.ensures) legal in
          absurd (false≢true (sym c.if-not-is_legal.true ∙ c.is_legal.ensures.listed.1 listed));
      unchanged = λ other. refl;
    })

pub play-next-requires : goal.play-next-requires
play-next-requires g c = c.is_legal.ensures.listed.0 c.if-not-is_legal.false

pub returns : goal.returns
returns g c =
    let there : sides c.mask.result c.mask-2.result ≡ result_of c.in-Ok.position (move_named c.args.played.now) =
    ap₂ sides (c.mask.ensures ∙ c.own.ensures.points) (c.mask-2.ensures ∙ c.other.ensures.points) ∙ (c.play-next.ensures ∙ ap (result_of c.in-Ok.position) c.move_named-m.ensures) in
    subst (λ s. PlaysMove g.B.Geometry.shape s (move_named c.args.played.now) (pos 0) (sides c.args.next_own.now c.args.next_other.now) (sides c.mask.result c.mask-2.result))
    c.in-Ok.ensures.made
    (record {
      refused = λ fault r. absurd (no_fault g.B.Geometry.shape c.in-Ok.position fault c.in-Ok.ensures.lawful r);
      illegal = λ position wrong. absurd (wrong (subst (λ m. Contains (moves_of g.B.Geometry.shape c.in-Ok.position) m) c.move_named-m.ensures (c.is_legal.ensures.listed.0 c.if-not-is_legal.false)));
      played = λ position legal. (refl, there);
      unchanged = λ other. absurd (other refl);
    })
