-- The printed form of a move.
use Rattle.std.specs.Prelude.{ℕ, List, [], ◌∷◌, ◌++◌, Option, Some, None}
use Rattle.std.specs.Fmt.{decimal}
use Rattle.morris_moves.specs.declared.game_move.Move.{Move}

-- `from-to`, and with a capture `from-toxtaken`; `-` is 45 and `x` is 120
abbrev pub taken_text : Option ℕ → List ℕ
taken_text None = []
taken_text (Some t) = 120 ∷ decimal t

unfoldable pub move_text : Move → List ℕ
move_text m = decimal m.from ++ (45 ∷ decimal m.to) ++ taken_text m.taken
