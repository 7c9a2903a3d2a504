-- What a report prints of a position.
use Rattle.std.specs.Prelude.{◌≡◌, ℕ, ◌<◌, List, ◌++◌, length, take, Option, Result, Ok, Err}
use Rattle.std.specs.List.{flat_map}
use Rattle.std.specs.Io.KnownBytes.{Appends, Keeps}
use Rattle.morris_board.specs.Boards.{Shape}
use Rattle.morris_board.specs.Positions.{Sides, text_of}
use Rattle.morris_moves.specs.declared.game_move.Move.{Move}
use Rattle.morris_pairs.specs.declared.value.Value.{Value}
use Rattle.morris_pairs.specs.Codes.{IsValue}
use Rattle.morris_probe.specs.Best.{AreBest}
use Rattle.morris_probe.specs.Lines.{line, move_line, value_line}
use Rattle.morris_probe.specs.declared.fault.ProbeFault.{ProbeFault}
use Rattle.morris_probe.specs.declared.fault.ProbeFault.TheVariants.{Needs, Memory, Write}

-- the position string, the value, and each of the moves, one a line
unfoldable pub report_text : Shape → Sides → Value → List Move → List ℕ
report_text board s value moves = line (text_of board s) ++ value_line value ++ flat_map move_line moves

-- the text has the value of the position in the game, and exactly its best moves, in their order
pub record IsReport (board : Shape) (s : Sides) (text : List ℕ) : Type 0 where
  pub value : Value
  pub moves : List Move
  pub valued : IsValue board s value
  pub best : AreBest board s moves
  pub written : text ≡ report_text board s value moves

-- What went out. Done: exactly the report. A table is missing, or memory was refused: nothing. A
-- write failed: the first `sent` bytes of the report, not all of it.
abbrev pub Reports : {T B : Type 0} → Shape → Sides → Option (List ℕ) → Option (List ℕ) → Result T (ProbeFault B) → Type 0
Reports board s old new (Ok done) = (text : List ℕ) × IsReport board s text × Appends old new text
Reports board s old new (Err (Needs needs)) = Keeps old new
Reports board s old new (Err Memory) = Keeps old new
Reports board s old new (Err (Write sent)) = (text : List ℕ) × IsReport board s text × (sent < length text) × Appends old new (take sent text)
