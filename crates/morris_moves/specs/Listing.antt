-- What is still to come of a list of legal moves, and of a list of quiet un-moves.
use Rattle.std.specs.Prelude.{◌≡◌, ℕ, ◌<◌, true, ◌&&◌, nat_lt, List, ◌++◌, map, None, if◌then◌else◌}
use Rattle.std.specs.List.{flat_map}
use Rattle.morris_board.specs.Sets.{has, members, count_of, set_where}
use Rattle.morris_board.specs.Boards.{Shape}
use Rattle.morris_board.specs.Positions.{Sides}
use Rattle.morris_moves.specs.declared.game_move.Move.{Move}
use Rattle.morris_moves.specs.Rules.{is_vacant, goes, free_stones, move, captures, moves_to, moves_from}
use Rattle.morris_moves.specs.Backward.{unmove}

-- first the captures from u to v of the stones `takes`, then the moves from u to the points `tos`,
-- then those of the stones `froms`
unfoldable pub moves_left : Shape → Sides → ℕ → ℕ → ℕ → ℕ → ℕ → List Move
moves_left board s froms u tos v takes =
    captures u v takes ++ (flat_map (moves_to board s u) (members tos) ++ flat_map (moves_from board s) (members froms))

-- The stones that a quiet un-move of q may take back: the opponent's that stand in no mill, and
-- none where the player to move has too few stones for an opponent.
unfoldable pub stones_to_unmove : Shape → Sides → ℕ
stones_to_unmove board q = if nat_lt (count_of q.own) 3 then 0 else free_stones board q.other

-- those that may have come from u
unfoldable pub targets : Shape → Sides → ℕ → ℕ
targets board q u = set_where board.points (λ v. has (stones_to_unmove board q) v && goes board (count_of q.other) u v)

-- the predecessor of q by the move from u to v, and that move
abbrev pub back : Sides → ℕ → ℕ → Sides × Move
back q u v = (unmove q (move u v None), move u v None)

unfoldable pub backs_from : Shape → Sides → ℕ → List (Sides × Move)
backs_from board q u = map (back q u) (members (targets board q u))

-- first the moves from u to the points `tos`, then those from the points `froms`
unfoldable pub backs_left : Shape → Sides → ℕ → ℕ → ℕ → List (Sides × Move)
backs_left board q froms u tos = map (back q u) (members tos) ++ flat_map (backs_from board q) (members froms)

-- no stone stands on these points of the board
abbrev pub AreVacant : Shape → Sides → ℕ → Type 0
AreVacant board q froms = (u : ℕ) → has froms u ≡ true → (u < board.points) × (is_vacant q u ≡ true)

-- the stones on these points may have come from u, where none stands
abbrev pub AreTargets : Shape → Sides → ℕ → ℕ → Type 0
AreTargets board q u tos = (v : ℕ) → has tos v ≡ true → (u < board.points) × (is_vacant q u ≡ true) × (has (targets board q u) v ≡ true)
