-- How long the printed texts are at most, so that their bytes can be counted.
use Rattle.std.proofs.Common.{ℕ, ◌+◌, ◌^◌, ◌<◌, ◌≤◌, List, ◌++◌, Option, Some, None, codes, length, arith, length-append}
use Rattle.morris_board.proofs.LengthLaws.{decimal_few, flat_map_few}
use Rattle.morris_board.specs.Boards.{Shape}
use Rattle.morris_board.specs.Sets.{count_of}
use Rattle.morris_board.specs.Positions.{Sides}
use Rattle.morris_index.specs.Pairs.{Counts}
use Rattle.morris_moves.specs.Rules.{moves_of}
use Rattle.morris_moves.specs.declared.within.Within.{Within}
use Rattle.morris_moves.specs.declared.within.Within.TheVariants.{Lost, Won, Unknown}
use Rattle.morris_pairs.specs.NetLaws.{moves_of_few}
use Rattle.morris_probe.specs.Lines.{move_line}
use Rattle.morris_probe.proofs.LengthLaws.{move_line_few, number_line_few, text_few}
use Rattle.morris_jobs.specs.Counted.{stats_text}
use Rattle.morris_jobs.proofs.LengthLaws.{stats_few}
use Rattle.morris_commands.specs.declared.deepest.Deep.{Deep}
use Rattle.morris_commands.specs.declared.deepest.Deepest.{Deepest}
use Rattle.morris_commands.specs.Deepest.{deepest_lines, found_line}
use Rattle.morris_commands.specs.Look.{look_text, value_line}

value_few : (plies : ℕ) (found : Within) → length (value_line plies found) ≤ 80
value_few plies (Lost depth) = omega (arith, number_line_few (codes "lost in ") depth)
value_few plies (Won depth) = omega (arith, number_line_few (codes "won in ") depth)
value_few plies Unknown = omega (arith, number_line_few (codes "unknown within ") plies)

pub look_few : (board : Shape) (s : Sides) (plies : ℕ) (found : Within) → board.points ≤ 24 → length (look_text board s plies found) < 2 ^ 32
unfolding look_text
look_few board s plies found points =
    simp length-append
    (omega (
      arith,
      points,
      text_few board s,
      decimal_few (count_of s.own),
      decimal_few (count_of s.other),
      moves_of_few board s,
      flat_map_few move_line 195 move_line_few (moves_of board s),
      decimal_few (length (moves_of board s)),
      value_few plies found,
    ))

found_few : {B : Type 0} (board : Shape) (head label : List ℕ) (found : Option (Deep B)) → board.points ≤ 24
    → length (found_line board head label found) ≤ length head + length label + 89
found_few board head label None points = simp length-append (omega arith)
found_few board head label (Some deep) points = simp length-append (omega (arith, points, text_few board deep.position, decimal_few deep.depth))

pub counted_few : {B : Type 0} (n : ℕ) (board : Shape) (pair : Counts) (tallies : List ℕ) (deepest : Deepest B) → board.points ≤ 24
    → length tallies ≤ 2 ^ 16 → length (stats_text n pair tallies ++ deepest_lines board deepest) < 2 ^ 63
counted_few n board pair tallies deepest points few =
    simp length-append
    (omega (
      arith,
      stats_few n pair tallies few,
      found_few board (codes "deepest win: ") (codes " won in ") deepest.win points,
      found_few board (codes "deepest loss: ") (codes " lost in ") deepest.loss points,
    ))
