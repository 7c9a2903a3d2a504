-- How long the printed texts are at most, so that their bytes can be counted.
use Rattle.std.proofs.Common.{◌≡◌, ℕ, ◌+◌, ◌*◌, ◌^◌, ◌<◌, ◌≤◌, ◌&&◌, List, [], ◌∷◌, ◌++◌, codes, length, length-take, take, arith, length-append}
use Rattle.std.specs.Prelude.{nat_eq, nat_le}
use Rattle.std.specs.List.{flat_map}
use Rattle.std.proofs.lemmas.Bool.{leb-true}
use Rattle.hex.specs.Hex.{encode_lower, lower_digits}
use Rattle.hex.proofs.HexLemmas.{length-encode_with}
use Rattle.morris_board.proofs.LengthLaws.{by_choice, by_test, decimal_few, flat_map_few}
use Rattle.morris_board.specs.Boards.{Shape}
use Rattle.morris_moves.specs.declared.game_move.Move.{Move}
use Rattle.morris_pairs.specs.declared.value.Value.{Value}
use Rattle.morris_pairs.specs.declared.value.Value.TheVariants.{Draw, Won, Lost}
use Rattle.morris_lookup.specs.declared.outcomes.Outcome.{Outcome}
use Rattle.morris_probe.proofs.LengthLaws.{move_few, number_line_few, text_few}
use Rattle.morris_queries.specs.declared.show.Show.{Show}
use Rattle.morris_queries.specs.declared.show.Show.TheVariants as show
use Rattle.morris_queries.specs.Printing.{IsShort, best_text, csv_line, csv_value, first_line, outcome_line, ply_line, shown_byte, shown_text, with_space, reported_text, value_text}
use Rattle.morris_queries.specs.Reports.{Played, PositionReport}

pub byte_few : (byte : ℕ) → length (shown_byte byte) ≤ 4
unfolding shown_byte
byte_few byte =
    let hex : length (encode_lower (byte ∷ [])) ≡ 2 = length-encode_with lower_digits (byte ∷ []) in
    by_test (nat_eq byte 92) 4 (codes "\\\\") _ (omega arith)
    (by_test (nat_le 32 byte && nat_le byte 126) 4 (byte ∷ []) (codes "\\x" ++ encode_lower (byte ∷ [])) (omega arith)
    (simp length-append (omega (arith, hex))))

pub shown_few : (points : ℕ) (text : List ℕ) → points ≤ 24 → length (shown_text points text) ≤ 107
shown_few points text low =
    by_choice (nat_le (length text) points) 107 (flat_map shown_byte text) (flat_map shown_byte (take points text) ++ codes " (too long)")
    (λ short. omega (arith, flat_map_few shown_byte 4 byte_few text, leb-true _ _ short, low))
    (simp length-append (omega (arith, flat_map_few shown_byte 4 byte_few (take points text), length-take points text, low)))

value_few : (value : Value) → length (value_text value) ≤ 72
value_few Draw = omega arith
value_few (Won depth) = simp length-append (omega (arith, decimal_few depth))
value_few (Lost depth) = simp length-append (omega (arith, decimal_few depth))

spaced_few : (m : Move) → length (with_space m) ≤ 195
spaced_few m = simp length-append (omega (arith, move_few m))

after_colon : (text : List ℕ) (n : ℕ) → length text ≤ n → length (codes ":" ++ text) ≤ 1 + n
after_colon text n few = omega (arith, few)

best_few : (best : List Move) → length (best_text best) ≤ 1 + 195 * length best
best_few [] = omega arith
best_few (m ∷ ms) = after_colon (flat_map with_space (m ∷ ms)) (195 * length (m ∷ ms)) (flat_map_few with_space 195 spaced_few (m ∷ ms))

first_few : (points : ℕ) (text : List ℕ) (t : PositionReport) → points ≤ 24 → length (first_line points text t) ≤ 182 + 195 * length t.best
unfolding first_line
first_few points text t low = simp length-append (omega (arith, shown_few points text low, value_few t.value, best_few t.best))

outcome_few : (o : Outcome) → length (outcome_line o) ≤ 270
unfolding outcome_line
outcome_few o = simp length-append (omega (arith, move_few o.step, value_few o.value))

ply_few : (board : Shape) → board.points ≤ 24 → (ply : Played) → length (ply_line board ply) ≤ 300
unfolding ply_line
ply_few board points ply = simp length-append (omega (arith, points, move_few ply.step, text_few board ply.after, value_few ply.value))

csv_value_few : (value : Value) → length (csv_value value) ≤ 72
csv_value_few Draw = omega arith
csv_value_few (Won depth) = omega (arith, number_line_few (codes ",won,") depth)
csv_value_few (Lost depth) = omega (arith, number_line_few (codes ",lost,") depth)

csv_few : (points : ℕ) (text : List ℕ) → points ≤ 24 → (o : Outcome) → length (csv_line points text o) ≤ 400
unfolding csv_line
csv_few points text low o = simp length-append (omega (arith, shown_few points text low, move_few o.step, csv_value_few o.value))

pub reported_few : (board : Shape) (kind : Show) (text : List ℕ) (t : PositionReport) → board.points ≤ 24 → IsShort t → length (reported_text board kind text t) < 2 ^ 63
unfolding reported_text
reported_few board show.Best text t points short = omega (arith, first_few board.points text t points, short.best)
reported_few board show.Moves text t points short =
    simp length-append
    (omega (arith, first_few board.points text t points, short.best, flat_map_few outcome_line 270 outcome_few t.outcomes, short.outcomes))
reported_few board show.Line text t points short =
    simp length-append
    (omega (arith, first_few board.points text t points, short.best, flat_map_few (ply_line board) 300 (ply_few board points) t.line, short.line))
reported_few board show.Csv text t points short =
    omega (arith, flat_map_few (csv_line board.points text) 400 (csv_few board.points text points) t.outcomes, short.outcomes)
