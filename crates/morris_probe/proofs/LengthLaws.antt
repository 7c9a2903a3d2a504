-- How long the texts are that a report is made of.
use Rattle.std.proofs.Common.{◌≡◌, ℕ, ◌+◌, ◌*◌, ◌^◌, ◌<◌, ◌≤◌, List, Option, Some, None, arith, codes, length, length-append}
use Rattle.std.proofs.lemmas.List.{length-map}
use Rattle.std.proofs.lemmas.List.FromFn.{length-range_with_len}
use Rattle.morris_board.specs.Boards.{Shape}
use Rattle.morris_board.specs.Positions.{Sides, text_of}
use Rattle.morris_moves.specs.declared.game_move.Move.{Move}
use Rattle.morris_moves.specs.MoveText.{move_text, taken_text}
use Rattle.morris_pairs.specs.declared.value.Value.{Value}
use Rattle.morris_pairs.specs.declared.value.Value.TheVariants.{Draw, Won, Lost}
use Rattle.morris_probe.specs.Lines.{move_line, number_line, value_line}
use Rattle.morris_probe.specs.Reports.{report_text}
use Rattle.morris_board.proofs.LengthLaws.{decimal_few, flat_map_few}

taken_few : (taken : Option ℕ) → length (taken_text taken) ≤ 65
taken_few None = omega arith
taken_few (Some point) = omega (arith, decimal_few point)

pub move_few : (m : Move) → length (move_text m) ≤ 194
unfolding move_text
move_few m = simp length-append (omega (arith, decimal_few m.from, decimal_few m.to, taken_few m.taken))

pub number_line_few : (label : List ℕ) (n : ℕ) → length (number_line label n) ≤ length label + 65
number_line_few label n = simp length-append (omega (arith, decimal_few n))

pub value_line_few : (value : Value) → length (value_line value) ≤ 73
value_line_few Draw = omega arith
value_line_few (Won depth) = omega (arith, number_line_few (codes "won in ") depth)
value_line_few (Lost depth) = omega (arith, number_line_few (codes "lost in ") depth)

pub text_few : (board : Shape) (s : Sides) → length (text_of board s) ≡ board.points
unfolding text_of
text_few board s = simp (length-map, length-range_with_len)

pub move_line_few : (m : Move) → length (move_line m) ≤ 195
move_line_few m = simp length-append (omega (arith, move_few m))

pub report_few : (board : Shape) (s : Sides) (value : Value) (moves : List Move) → board.points ≤ 24 → length moves ≤ 9 * 24 * 9
    → length (report_text board s value moves) < 2 ^ 63
unfolding report_text
report_few board s value moves points few =
    simp length-append
    (omega (arith, points, few, text_few board s, value_line_few value, flat_map_few move_line 195 move_line_few moves))
