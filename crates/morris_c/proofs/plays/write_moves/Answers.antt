use Rattle.std.proofs.Common.{◌≡◌, ◌<◌, ◌+◌, List, [], ◌∷◌, ◌++◌, length, take, set, refl, sym, ap, ap₂, ◌∙◌, arith, append-nil, append_assoc, length-append, length-set, rules}
use Rattle.std.specs.Prelude.{map}
use Rattle.std.proofs.lemmas.List.{take_more_set, map-append}
use Rattle.morris_moves.specs.declared.game_move.Move.{Move}
use Rattle.morris_moves.specs.Rules.{moves_of}
use Rattle.morris_c.specs.Plays.{bare_record}
use Rattle.morris_c.proofs.plays.write_moves.Goals as goal

listed_next : (past left rest all : List Move) (m : Move) → past ++ left ≡ all → left ≡ m ∷ rest → (past ++ m ∷ []) ++ rest ≡ all
listed_next past left rest all m h e = append_assoc past (m ∷ []) rest ∙ ap (λ ms. past ++ ms) (sym e) ∙ h

listed_all : (past left all : List Move) → past ++ left ≡ all → left ≡ [] → past ≡ all
listed_all past left all h e = sym (append-nil past) ∙ ap (λ ms. past ++ ms) (sym e) ∙ h

pub returns-then-out-move_count-clause-room : goal.returns-then-out-move_count-clause-room
returns-then-out-move_count-clause-room g c = (omega (arith, c.if-out-move_count.true, c.move_count.ensures), refl)

pub loop-m-init : goal.loop-m-init
loop-m-init g c = record {
  listed = search rules;
  done = refl;
  room = omega (arith, c.if-out-move_count.false, c.move_count.ensures);
  written = refl;
}

pub bounds-out-done : goal.bounds-out-done
bounds-out-done g c =
    let whole : (c.loop-m.yielded ++ c.in-Some.m ∷ []) ++ c.next.new.self ≡ moves_of g.B.Geometry.shape c.args.position.now = listed_next _ _ _ _ _ c.loop-m.invariant.listed c.in-Some.ensures.steps in
    omega (
      arith,
      ap length whole,
      length-append (c.loop-m.yielded ++ c.in-Some.m ∷ []) c.next.new.self,
      length-append c.loop-m.yielded (c.in-Some.m ∷ []),
      c.loop-m.invariant.done,
      c.loop-m.invariant.room,
    )

pub loop-m-preserved : goal.loop-m-preserved
loop-m-preserved g c =
    let inside : c.loop-m.done < length c.loop-m.out = bounds-out-done g c in
    let more : take (c.loop-m.done + 1) (set c.loop-m.out c.loop-m.done c.move_record.result) ≡ take c.loop-m.done c.loop-m.out ++ c.move_record.result ∷ [] =
    take_more_set c.loop-m.out c.loop-m.done c.move_record.result inside in
    record {
      listed = listed_next _ _ _ _ _ c.loop-m.invariant.listed c.in-Some.ensures.steps;
      done = omega (arith, length-append c.loop-m.yielded (c.in-Some.m ∷ []), c.loop-m.invariant.done);
      room = omega (arith, length-set c.loop-m.out c.loop-m.done c.move_record.result, c.loop-m.invariant.room);
      written =
          more ∙ (ap₂ (λ rs r. rs ++ r ∷ []) c.loop-m.invariant.written c.move_record.ensures ∙ sym (map-append bare_record c.loop-m.yielded (c.in-Some.m ∷ [])));
    }

pub returns-clause-count : goal.returns-clause-count
returns-clause-count g c = c.loop-m.invariant.done ∙ ap length (listed_all _ _ _ c.loop-m.invariant.listed c.in-None.ensures.steps.0)

pub returns-clause-listed : goal.returns-clause-listed
returns-clause-listed g c = c.loop-m.invariant.written ∙ ap (map bare_record) (listed_all _ _ _ c.loop-m.invariant.listed c.in-None.ensures.steps.0)

pub returns-clause-room : goal.returns-clause-room
returns-clause-room g c = omega (arith, c.loop-m.invariant.room, c.loop-m.auto.out)
