use Rattle.std.proofs.Common.{◌≡◌, ◌∷◌, [], ◌++◌, List, sym, ap, ◌∙◌, append_assoc, append-nil}
use Rattle.std.specs.List.{flat_map}
use Rattle.std.proofs.lemmas.Grind.{flat_map-append}
use Rattle.morris_board.proofs.PrinterLaws.{and_then_as}
use Rattle.morris_moves.specs.declared.game_move.Move.{Move}
use Rattle.morris_probe.specs.Lines.{move_line}
use Rattle.morris_commands.proofs.print_look.put_moves.Goals as goal

-- the lines of the moves so far, and of this one
one_more : (seen : List Move) (m : Move) → flat_map move_line (seen ++ m ∷ []) ≡ flat_map move_line seen ++ move_line m
one_more seen m = flat_map-append move_line seen (m ∷ []) ∙ ap (λ lines. flat_map move_line seen ++ lines) (append-nil (move_line m))

pub loop-m-preserved : goal.loop-m-preserved
loop-m-preserved g c = record {
  takes = and_then_as (one_more c.loop-m.yielded c.in-Some.m) c.loop-m.invariant.takes c.put_move_line.ensures;
  split =
      append_assoc c.loop-m.yielded (c.in-Some.m ∷ []) c.next.new.self
      ∙ (ap (λ rest. c.loop-m.yielded ++ rest) (sym c.in-Some.ensures.steps) ∙ c.loop-m.invariant.split);
}
