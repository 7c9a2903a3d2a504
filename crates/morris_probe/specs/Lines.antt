-- The lines that are printed of moves, numbers and values.
use Rattle.std.specs.Prelude.{ℕ, List, [], ◌∷◌, ◌++◌, codes}
use Rattle.std.specs.Fmt.{decimal}
use Rattle.morris_moves.specs.MoveText.{move_text}
use Rattle.morris_moves.specs.declared.game_move.Move.{Move}
use Rattle.morris_pairs.specs.declared.value.Value.{Value}
use Rattle.morris_pairs.specs.declared.value.Value.TheVariants.{Draw, Won, Lost}

-- a line ends with one line feed
abbrev pub line : List ℕ → List ℕ
line text = text ++ (10 ∷ [])

-- a line of a label and a number
abbrev pub number_line : List ℕ → ℕ → List ℕ
number_line label n = label ++ decimal n ++ (10 ∷ [])

abbrev pub move_line : Move → List ℕ
move_line m = line (move_text m)

-- `draw`, `won in D` or `lost in D`
abbrev pub value_line : Value → List ℕ
value_line Draw = line (codes "draw")
value_line (Won depth) = number_line (codes "won in ") depth
value_line (Lost depth) = number_line (codes "lost in ") depth
