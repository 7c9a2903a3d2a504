-- What is printed of an answer.
use Rattle.std.specs.Prelude.{ℕ, ◌*◌, ◌≤◌, ◌&&◌, nat_eq, nat_le, List, [], ◌∷◌, ◌++◌, length, take, codes, Result, Ok, Err, if◌then◌else◌}
use Rattle.std.specs.List.{flat_map}
use Rattle.std.specs.Fmt.{decimal}
use Rattle.hex.specs.Hex.{encode_lower}
use Rattle.morris_board.specs.Boards.{Shape}
use Rattle.morris_board.specs.Positions.{text_of}
use Rattle.morris_moves.specs.MoveText.{move_text}
use Rattle.morris_moves.specs.declared.game_move.Move.{Move}
use Rattle.morris_pairs.specs.declared.value.Value.{Value}
use Rattle.morris_pairs.specs.declared.value.Value.TheVariants.{Draw, Won, Lost}
use Rattle.morris_probe.specs.Lines.{number_line}
use Rattle.morris_lookup.specs.declared.outcomes.Outcome.{Outcome}
use Rattle.morris_jobs.specs.declared.fault.Fault.{Fault}
use Rattle.morris_jobs.specs.Faults.{fault_line}
use Rattle.morris_queries.specs.declared.show.Show.{Show}
use Rattle.morris_queries.specs.declared.show.Show.TheVariants as show
use Rattle.morris_queries.specs.Reports.{Played, PositionReport}

-- `draw`, `won in D` or `lost in D`
abbrev pub value_text : Value → List ℕ
value_text Draw = codes "draw"
value_text (Won depth) = codes "won in " ++ decimal depth
value_text (Lost depth) = codes "lost in " ++ decimal depth

-- a move after a blank
abbrev pub with_space : Move → List ℕ
with_space m = codes " " ++ move_text m

-- the best moves after a colon, and nothing where there are none
abbrev pub best_text : List Move → List ℕ
best_text [] = []
best_text (m ∷ ms) = codes ":" ++ flat_map with_space (m ∷ ms)

-- A byte of the text that was asked about. A printable character of ASCII (32 to 126) is shown as
-- it is, but a backslash (92) as two. Any other byte is shown as a backslash, an `x` and its two
-- hexadecimal digits. So a terminal takes none for a command, and no byte for another.
unfoldable pub shown_byte : ℕ → List ℕ
shown_byte byte =
    if nat_eq byte 92 then codes "\\\\" else (if nat_le 32 byte && nat_le byte 126 then byte ∷ [] else codes "\\x" ++ encode_lower (byte ∷ []))

-- The text that was asked about, byte by byte. Of one that is too long so many bytes are shown as
-- the board has points, and that it is too long.
abbrev pub shown_text : ℕ → List ℕ → List ℕ
shown_text points text =
    if nat_le (length text) points then flat_map shown_byte text else flat_map shown_byte (take points text) ++ codes " (too long)"

-- the text, the value and the best moves, as a line
unfoldable pub first_line : ℕ → List ℕ → PositionReport → List ℕ
first_line points text t = shown_text points text ++ (codes " " ++ value_text t.value) ++ best_text t.best ++ (10 ∷ [])

-- two blanks, a move, and the value that it leads to
unfoldable pub outcome_line : Outcome → List ℕ
outcome_line o = codes "  " ++ move_text o.step ++ (codes " " ++ value_text o.value) ++ (10 ∷ [])

-- two blanks, a move, the string of the position after it, and its value
unfoldable pub ply_line : Shape → Played → List ℕ
ply_line board ply = codes "  " ++ move_text ply.step ++ (codes " " ++ text_of board ply.after) ++ (codes " " ++ value_text ply.value) ++ (10 ∷ [])

-- the end of a line of fields: the result that a move leads to, and its depth, which a draw hasn't
abbrev pub csv_value : Value → List ℕ
csv_value Draw = codes ",draw,\n"
csv_value (Won depth) = number_line (codes ",won,") depth
csv_value (Lost depth) = number_line (codes ",lost,") depth

-- a line of fields: the text that was asked about, a move, and the value that it leads to
unfoldable pub csv_line : ℕ → List ℕ → Outcome → List ℕ
csv_line points text o = shown_text points text ++ codes "," ++ move_text o.step ++ csv_value o.value

-- what stands before all answers: the names of the fields, where fields are shown
abbrev pub head_text : Show → List ℕ
head_text show.Csv = codes "text,move,result,depth\n"
head_text _ = []

-- the report of a position, with the text that was asked about
unfoldable pub reported_text : Shape → Show → List ℕ → PositionReport → List ℕ
reported_text board show.Best text t = first_line board.points text t
reported_text board show.Moves text t = first_line board.points text t ++ flat_map outcome_line t.outcomes
reported_text board show.Line text t = first_line board.points text t ++ flat_map (ply_line board) t.line
reported_text board show.Csv text t = flat_map (csv_line board.points text) t.outcomes

-- the answer to a text: the report of its position, or the line of the fault after the text
abbrev pub answer_string : Shape → Show → List ℕ → Result PositionReport Fault → List ℕ
answer_string board show text (Ok t) = reported_text board show text t
answer_string board show text (Err refused) = shown_text board.points text ++ codes ": " ++ fault_line refused

-- the report is short enough to be counted while it is printed
pub record IsShort (t : PositionReport) : Type 0 where
  pub best : length t.best ≤ 9 * 24 * 9
  pub outcomes : length t.outcomes ≤ 9 * 24 * 9
  pub line : length t.line ≤ 65535
