use Rattle.std.proofs.Common.{◌≡◌, ◌<◌, List, [], ◌∷◌, ◌++◌, codes, length, eqb, false, refl, sym, ◌∙◌, arith}
use Rattle.std.specs.List.{flat_map}
use Rattle.morris_board.proofs.PrinterLaws.{and_then}
use Rattle.morris_moves.specs.declared.game_move.Move.{Move}
use Rattle.morris_queries.specs.Printing.{best_text, with_space}
use Rattle.morris_queries.proofs.print.put_best.Goals as goal

some_best : (ms : List Move) → 0 < length ms → best_text ms ≡ codes ":" ++ flat_map with_space ms
some_best [] h = absurd (omega arith)
some_best (m ∷ ms) h = refl

some_length : (ms : List Move) → eqb (length ms) 0 ≡ false → 0 < length ms
some_length [] h = cc
some_length (m ∷ ms) h = omega arith

pub returns : goal.returns
returns g c =
    let some : 0 < length c.args.best.now = some_length c.args.best.now (sym c.is_empty.ensures ∙ c.if-is_empty.false) in
    rw (some_best c.args.best.now some)
    (and_then c.put.ensures c.put_list.ensures)
