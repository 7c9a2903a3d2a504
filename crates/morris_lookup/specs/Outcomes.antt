-- What each legal move leads to, for the player who makes it.
use Rattle.std.specs.Prelude.{◌≡◌, ◌≢◌, ◌⊎◌, ⊤, suc, Bool, true, false, nat_eq, List, [], ◌∷◌, ◌++◌, map, filter, Some, None, IfSome}
use Rattle.std.specs.List.{Contains}
use Rattle.morris_board.specs.Boards.{Shape}
use Rattle.morris_board.specs.Positions.{Sides}
use Rattle.morris_moves.specs.declared.game_move.Move.{Move}
use Rattle.morris_moves.specs.Rules.{moves_of, result_of}
use Rattle.morris_pairs.specs.declared.value.Value.{Value}
use Rattle.morris_pairs.specs.declared.value.Value.TheVariants.{Draw, Won, Lost}
use Rattle.morris_pairs.specs.Codes.{IsValue}
use Rattle.morris_lookup.specs.declared.fault.LookFault.{LookFault}
use Rattle.morris_lookup.specs.declared.fault.LookFault.TheVariants as fault
use Rattle.morris_lookup.specs.declared.outcomes.Outcome.{Outcome}
use Rattle.morris_lookup.specs.FileSets.{Files, missing_file, said_of, IsExactAt, IsValueRefusal}

-- What a position's value is for the player who has just moved to it: where the player to move has
-- lost in d plies, a win in d + 1, and so on.
abbrev pub value_for_mover : Value → Value
value_for_mover Draw = Draw
value_for_mover (Won depth) = Lost (suc depth)
value_for_mover (Lost depth) = Won (suc depth)

-- The outcome of a move is the value of the position after it, of which the file is open, for the
-- player who moved: the one that the files say, where their bytes are known; and the one in the
-- game, where the file of this position is exact.
pub record IsOutcome (board : Shape) (files : Files) (s : Sides) (outcome : Outcome) : Type 0 where
  pub next : Value
  pub found : missing_file files (result_of s outcome.step) ≡ None
  pub for_mover : outcome.value ≡ value_for_mover next
  pub said : (value : Value) → said_of board files (result_of s outcome.step) ≡ Some value → next ≡ value
  pub exact : IsExactAt board files (result_of s outcome.step) → IsValue board (result_of s outcome.step) next

-- Of the legal moves in turn, the one after which there is no value is the first after which no
-- file is open, or whose file couldn't be read: those before it have their files.
pub record StopsAt {B : Type 0} (board : Shape) (files : Files) (s : Sides) (refusal : LookFault B) : Type 0 where
  pub before : List Move
  pub step : Move
  pub after : List Move
  pub all : before ++ step ∷ after ≡ moves_of board s
  pub found : (m : Move) → Contains before m → missing_file files (result_of s m) ≡ None
  pub refused : IsValueRefusal board files (result_of s step) refusal

-- why no outcomes are found: there is no value after a legal move; or memory ran out
abbrev pub IsOutcomeRefusal : {B : Type 0} → Shape → Files → Sides → LookFault B → Type 0
IsOutcomeRefusal board files s fault.Memory = ⊤
IsOutcomeRefusal board files s refusal = StopsAt board files s refusal

-- why no best moves are found: no value of the position; or, where its file is there, no outcomes
abbrev pub IsBestRefusal : {B : Type 0} → Shape → Files → Sides → LookFault B → Type 0
IsBestRefusal board files s refusal = IsValueRefusal board files s refusal ⊎ ((missing_file files s ≡ None) × IsOutcomeRefusal board files s refusal)

-- ---- best moves by what the files say

abbrev pub same_value : Value → Value → Bool
same_value Draw Draw = true
same_value (Won depth) (Won other) = nat_eq depth other
same_value (Lost depth) (Lost other) = nat_eq depth other
same_value _ _ = false

-- of the legal moves with what they lead to, those that lead to the position's own value
abbrev pub best_among : Value → List Outcome → List Move
best_among value outcomes = map (λ o. o.step) (filter (λ o. same_value o.value value) outcomes)

-- Of moves in turn, those that lead to this value, in order, and no others, by what the files say
-- of their results, where they say a value.
abbrev pub ArePicked : Shape → Files → Sides → Value → List Move → List Move → Type 0
ArePicked board files s value [] best = best ≡ []
ArePicked board files s value (m ∷ moves) best =
    (IfSome (said_of board files (result_of s m)) (λ next. value_for_mover next ≢ value) × ArePicked board files s value moves best)
    ⊎ ((rest : List Move) × (best ≡ m ∷ rest) × IfSome (said_of board files (result_of s m)) (λ next. value_for_mover next ≡ value) × ArePicked board files s value moves rest)

-- The list has the legal moves that lead to the value of the position, which is the one that the
-- files say, where they say one.
pub record AreSaidBest (board : Shape) (files : Files) (s : Sides) (best : List Move) : Type 0 where
  pub value : Value
  pub said : (other : Value) → said_of board files s ≡ Some other → value ≡ other
  pub picked : ArePicked board files s value (moves_of board s) best
