-- The rules of a move: where a stone may go, when a mill closes, what may be taken, and what comes
-- of it.
use Rattle.std.specs.Prelude.{ℕ, Bool, not, ◌&&◌, ◌||◌, nat_eq, nat_lt, List, [], ◌∷◌, map, Option, Some, None, if◌then◌else◌}
use Rattle.std.specs.List.{list_any, flat_map}
use Rattle.morris_board.specs.Sets.{has, members, count_of, with_point, without_point, is_subset, set_where}
use Rattle.morris_board.specs.Boards.{Shape, is_adjacent, mills_of}
use Rattle.morris_board.specs.Positions.{Sides, sides}
use Rattle.morris_moves.specs.declared.game_move.Move.{Move}

-- whether the point t stands in a mill of the set s: some mill that has t lies wholly in s
unfoldable pub in_mill : Shape → ℕ → ℕ → Bool
in_mill board s t = list_any (λ mill. has mill t && is_subset mill s) (mills_of board)

-- the stones `own` once the one on u has gone to v
unfoldable pub move_stone : ℕ → ℕ → ℕ → ℕ
move_stone own u v = with_point (without_point own u) v

-- A move from u to v closes a mill when some mill that has v then lies wholly in `own`.
unfoldable pub closes : Shape → ℕ → ℕ → ℕ → Bool
closes board own u v = in_mill board (move_stone own u v) v

-- whether no stone stands on v
abbrev pub is_vacant : Sides → ℕ → Bool
is_vacant s v = not (has s.own v || has s.other v)

-- Between which points a stone of a player with n stones goes where nothing stands in its way: with
-- more than three stones between adjacent points (a slide), with exactly three between any two (a
-- jump), and with fewer nowhere.
abbrev pub goes : Shape → ℕ → ℕ → ℕ → Bool
goes board n u v = if nat_lt 3 n then is_adjacent board u v else nat_eq n 3

-- a stone on u may go to a vacant point
unfoldable pub may_go : Shape → Sides → ℕ → ℕ → Bool
may_go board s u v = is_vacant s v && goes board (count_of s.own) u v

unfoldable pub reach : Shape → Sides → ℕ → ℕ
reach board s u = set_where board.points (may_go board s u)

-- What a move that closes a mill may take: a stone of the opponent that stands in none of the
-- opponent's mills, and any stone where each stands in one.
unfoldable pub free_stones : Shape → ℕ → ℕ
free_stones board other = set_where board.points (λ t. has other t && not (in_mill board other t))

unfoldable pub takable_stones : Shape → ℕ → ℕ
takable_stones board other = if nat_eq (free_stones board other) 0 then other else free_stones board other

abbrev pub move : ℕ → ℕ → Option ℕ → Move
move u v t = record { from = u; to = v; taken = t }

-- Whether a move takes what it must: exactly one takable stone where it closes a mill, and none
-- where it doesn't.
abbrev pub takes_rightly : Shape → Sides → ℕ → ℕ → Option ℕ → Bool
takes_rightly board s u v None = not (closes board s.own u v)
takes_rightly board s u v (Some t) = closes board s.own u v && has (takable_stones board s.other) t

-- A legal move goes from a stone of the player to move to a point in its reach, and takes what it
-- must.
unfoldable pub is_legal : Shape → Sides → Move → Bool
is_legal board s m = has s.own m.from && (has (reach board s m.from) m.to && takes_rightly board s m.from m.to m.taken)

-- The legal moves, each once, in order of from, then to, then taken: a move that closes a mill is
-- one for each takable stone.
abbrev pub captures : ℕ → ℕ → ℕ → List Move
captures u v takes = map (λ t. move u v (Some t)) (members takes)

unfoldable pub moves_to : Shape → Sides → ℕ → ℕ → List Move
moves_to board s u v = if closes board s.own u v then captures u v (takable_stones board s.other) else (move u v None ∷ [])

unfoldable pub moves_from : Shape → Sides → ℕ → List Move
moves_from board s u = flat_map (moves_to board s u) (members (reach board s u))

unfoldable pub moves_of : Shape → Sides → List Move
moves_of board s = flat_map (moves_from board s) (members s.own)

-- What a move leads to: the sides are swapped, and the stone that was taken is gone.
abbrev pub left_of : ℕ → Option ℕ → ℕ
left_of other None = other
left_of other (Some t) = without_point other t

unfoldable pub result_of : Sides → Move → Sides
result_of s m = sides (left_of s.other m.taken) (move_stone s.own m.from m.to)
