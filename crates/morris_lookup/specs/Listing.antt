-- What files say of each legal move of a position, for the player who makes it.
use Rattle.std.specs.Prelude.{◌≡◌, ℕ, List, [], ◌∷◌, Result, Ok, Err}
use Rattle.std.specs.Result.{result_map_both}
use Rattle.morris_board.specs.Boards.{Shape}
use Rattle.morris_board.specs.Positions.{Sides}
use Rattle.morris_moves.specs.declared.game_move.Move.{Move}
use Rattle.morris_moves.specs.Rules.{result_of}
use Rattle.morris_pairs.specs.declared.value.Value.{Value}
use Rattle.morris_pairs.specs.Codes.{IsValue}
use Rattle.morris_lookup.specs.Outcomes.{value_for_mover}
use Rattle.morris_lookup.specs.declared.fault.ViewFault.{ViewFault}
use Rattle.morris_lookup.specs.declared.records.MoveRecord.{MoveRecord}
use Rattle.morris_lookup.specs.Records.{move_record}
use Rattle.morris_lookup.specs.Views.{value_said}

-- a move with the value of the position after it, for the player who moved: where the opponent has
-- then lost in d plies, a win in d + 1, and so on
unfoldable pub outcome_of : Shape → List (List ℕ) → Sides → Move → Result MoveRecord ViewFault
outcome_of board files s m = result_map_both (λ next. move_record m (value_for_mover next)) (λ refusal. refusal) (value_said board files (result_of s m))

-- those of many moves in turn: the first that is refused refuses all
abbrev pub with_first : Result MoveRecord ViewFault → Result (List MoveRecord) ViewFault → Result (List MoveRecord) ViewFault
with_first (Ok outcome) (Ok outcomes) = Ok (outcome ∷ outcomes)
with_first (Ok outcome) (Err refusal) = Err refusal
with_first (Err refusal) rest = Err refusal

unfoldable pub outcomes_said : Shape → List (List ℕ) → Sides → List Move → Result (List MoveRecord) ViewFault
outcomes_said board files s [] = Ok []
outcomes_said board files s (m ∷ ms) = with_first (outcome_of board files s m) (outcomes_said board files s ms)

-- the record of a move has the value that the move leads to in the game
pub record IsExactOutcome (board : Shape) (s : Sides) (m : Move) (outcome : MoveRecord) : Type 0 where
  pub next : Value
  pub there : IsValue board (result_of s m) next
  pub is : outcome ≡ move_record m (value_for_mover next)

-- so it is of each move and its record
abbrev pub AreExactOutcomes : Shape → Sides → List Move → List MoveRecord → Type 0
AreExactOutcomes board s [] [] = Unit {0}
AreExactOutcomes board s [] (outcome ∷ outcomes) = ⊥
AreExactOutcomes board s (m ∷ ms) [] = ⊥
AreExactOutcomes board s (m ∷ ms) (outcome ∷ outcomes) = IsExactOutcome board s m outcome × AreExactOutcomes board s ms outcomes
