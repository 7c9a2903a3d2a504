-- The best moves of a position.
use Rattle.std.specs.Prelude.{◌≡◌, ◌↔◌, zero, suc, List, Option, Some, None}
use Rattle.std.specs.List.{AllPairs, Contains}
use Rattle.morris_board.specs.Boards.{Shape}
use Rattle.morris_board.specs.Positions.{Sides}
use Rattle.morris_moves.specs.declared.game_move.Move.{Move}
use Rattle.morris_moves.specs.Order.{Precedes}
use Rattle.morris_moves.specs.Rules.{moves_of, result_of}
use Rattle.morris_pairs.specs.declared.value.Value.{Value}
use Rattle.morris_pairs.specs.declared.value.Value.TheVariants.{Draw, Won, Lost}
use Rattle.morris_pairs.specs.Codes.{IsValue}

-- The value of what a best move leads to, where the opponent is to move: after a draw a draw, after
-- a win in d > 0 plies a loss in d - 1, and after a loss in d > 0 plies a win in d - 1. At depth 0
-- there is none.
abbrev pub after_best : Value → Option Value
after_best Draw = Some Draw
after_best (Won zero) = None
after_best (Won (suc depth)) = Some (Lost depth)
after_best (Lost zero) = None
after_best (Lost (suc depth)) = Some (Won depth)

-- from a position of this value the move leads to one of the value that a best move leads to
abbrev pub LeadsOn : Shape → Sides → Value → Move → Type 0
LeadsOn board s value m = (next : Value) × (after_best value ≡ Some next) × IsValue board (result_of s m) next

-- A best move of a position is a legal move that leads to what a best move leads to from a
-- position of its value.
abbrev pub IsBest : Shape → Sides → Move → Type 0
IsBest board s m = Contains (moves_of board s) m × ((value : Value) × IsValue board s value × LeadsOn board s value m)

-- The list has exactly the best moves of the position, each once, in order of the point that the
-- stone leaves, then of the one it goes to, then of the stone that is taken.
pub record AreBest (board : Shape) (s : Sides) (moves : List Move) : Type 0 where
  pub each : (m : Move) → Contains moves m ↔ IsBest board s m
  pub ascending : AllPairs Precedes moves
