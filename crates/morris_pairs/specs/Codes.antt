-- The code of a position: its value as one number.
use Rattle.std.specs.Prelude.{ℕ, zero, suc, ◌+◌, ◌%◌, Bool, ◌||◌, nat_eq, if◌then◌else◌}
use Rattle.morris_board.specs.Boards.{Shape}
use Rattle.morris_board.specs.Positions.{Sides}
use Rattle.morris_moves.specs.Values.{is_lost, is_won, IsLostIn, IsWonIn, IsDraw}
use Rattle.morris_pairs.specs.declared.value.Value.{Value}
use Rattle.morris_pairs.specs.declared.value.Value.TheVariants.{Draw, Won, Lost}

-- what a value says of a position: a draw, or a win or a loss in exactly so many plies
abbrev pub IsValue : Shape → Sides → Value → Type 0
IsValue board s Draw = IsDraw board s
IsValue board s (Won depth) = IsWonIn board s depth
IsValue board s (Lost depth) = IsLostIn board s depth

-- A code is 0 for a draw and otherwise one more than the depth. Depths of losses are even and those
-- of wins odd, so an odd code is a loss and an even one above 0 a win.
abbrev pub value_in : ℕ → Value
value_in zero = Draw
value_in (suc depth) = if nat_eq (depth % 2) 0 then Lost depth else Won depth

-- the code says the value of the position
abbrev pub IsCodeOf : Shape → Sides → ℕ → Type 0
IsCodeOf board s code = IsValue board s (value_in code)

-- whether the position is lost or won within n plies
abbrev pub is_decided : ℕ → Shape → Sides → Bool
is_decided n board s = is_lost n board s || is_won n board s

-- the code of a position where its depth is at most n, otherwise 0
unfoldable pub code_to : ℕ → Shape → Sides → ℕ
code_to zero board s = if is_decided zero board s then 1 else 0
code_to (suc n) board s = if is_decided n board s then code_to n board s else (if is_decided (suc n) board s then n + 2 else 0)
