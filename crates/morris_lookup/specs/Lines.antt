-- The line of best play.
use Rattle.std.specs.Prelude.{◌≡◌, Some}
use Rattle.morris_board.specs.Boards.{Shape}
use Rattle.morris_board.specs.Positions.{Sides}
use Rattle.morris_moves.specs.declared.game_move.Move.{Move}
use Rattle.morris_moves.specs.Rules.{result_of}
use Rattle.morris_pairs.specs.declared.value.Value.{Value}
use Rattle.morris_pairs.specs.Codes.{IsValue}
use Rattle.morris_probe.specs.Best.{after_best, IsBest}

-- The move is a best one, and leads to this position.
pub record IsBestStep (board : Shape) (s : Sides) (step : Move × Sides) : Type 0 where
  pub best : IsBest board s step.0
  pub leads : step.1 ≡ result_of s step.0

-- The position after it is won or lost in one ply less, by the other player: after a win in d a
-- loss in d - 1, after a loss in d a win in d - 1, and after a draw a draw.
pub record IsPlyLess (board : Shape) (s t : Sides) : Type 0 where
  pub value : Value
  pub next : Value
  pub here : IsValue board s value
  pub there : IsValue board t next
  pub one_less : after_best value ≡ Some next
