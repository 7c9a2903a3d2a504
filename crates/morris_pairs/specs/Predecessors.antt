-- The quiet moves that lead to a position, looked at from it: its un-moves.
use Rattle.std.specs.Prelude.{◌≡◌, ℕ, ◌<◌, ◌≤◌, List, [], ◌∷◌, ◌++◌, length, map, filter, None}
use Rattle.std.specs.List.{All, range_with_len, flat_map}
use Rattle.morris_board.specs.Boards.{Shape}
use Rattle.morris_board.specs.Positions.{Sides}
use Rattle.morris_board.specs.Symmetries.{image_sides}
use Rattle.morris_moves.specs.declared.game_move.Move.{Move}
use Rattle.morris_moves.specs.Rules.{move}
use Rattle.morris_moves.specs.Backward.{has_come}
use Rattle.morris_index.specs.Pairs.{Counts, index_of}
use Rattle.morris_index.specs.Moves.{unmove_sides}
use Rattle.morris_index.specs.Unmoves.{gives_unmove, entry_predecessors}
use Rattle.morris_wave.specs.Nets.{times}
use Rattle.morris_pairs.specs.declared.layout.Layout.{Layout}
use Rattle.morris_pairs.specs.Orders.{Order, Full, Classes, Rows, order_of, to_first_half, row_index_of, count_in, index_in}
use Rattle.morris_pairs.specs.PairNets.{net_in}

-- the quiet moves to v that led to s from a point below n, in order of that point
unfoldable pub moves_into : Shape → Sides → ℕ → ℕ → List Move
moves_into board s v n = filter (has_come board s) (map (λ u. move u v None) (range_with_len 0 n))

-- the quiet moves to one of these points that led to s from a point below n
unfoldable pub unmoves_to : Shape → Sides → ℕ → List ℕ → List Move
unmoves_to board s n points = flat_map (λ v. moves_into board s v n) points

-- The numbers in rows of the predecessors by the quiet move to p from u to v: one for each symmetry
-- that takes the set of the side with more stones before the move to its canonical form, and that
-- is in the transversal of this side's set in p.
unfoldable pub predecessors_in_rows : Shape → ℕ → Counts → Sides → ℕ → ℕ → List ℕ
predecessors_in_rows board n c p u v =
    map (λ s. row_index_of board n c (image_sides (board.image s) (unmove_sides p u v)))
    (filter (gives_unmove board (to_first_half p) (to_first_half (unmove_sides p u v)).own) (range_with_len 0 board.symmetries))

-- The predecessors of the node of s by the quiet move to s from u to v, on n points. Full: that of
-- the position before the move. Classes and Rows: one for each symmetry that gives an un-move.
abbrev pub predecessors_by_in : Order → Shape → ℕ → Counts → Sides → ℕ → ℕ → List ℕ
predecessors_by_in Full board n c s u v = index_of n c (unmove_sides s u v) ∷ []
predecessors_by_in Classes board n c s u v = entry_predecessors board n c s u v
predecessors_by_in Rows board n c s u v = predecessors_in_rows board n c s u v

-- the predecessors of the node of s by these quiet moves, each as often as a move leads from it to
-- the node
unfoldable pub predecessors_in : Order → Shape → ℕ → Counts → Sides → List Move → List ℕ
predecessors_in o board n c s moves = flat_map (λ m. predecessors_by_in o board n c s m.from m.to) moves

-- `new` is `old`, followed by the predecessors of the node of s, each as often as a quiet move
-- leads from it to the node; these are at most 65,535
pub record AddsPredecessorsIn (o : Order) (board : Shape) (n : ℕ) (c : Counts) (s : Sides) (old new : List ℕ) : Type 0 where
  pub added : List ℕ
  pub follow : new ≡ old ++ added
  pub often : (j : ℕ) → j < count_in board n o c → times j added ≡ times (index_in board n o c s) ((net_in board o c).quiet j)
  pub nodes : All (λ j. j < count_in board n o c) added
  pub few : length added ≤ 65535

-- ---- the same for the entries of a table

abbrev pub predecessors_by_move : Layout → Shape → ℕ → Counts → Sides → ℕ → ℕ → List ℕ
predecessors_by_move l board n c s u v = predecessors_by_in (order_of l) board n c s u v

abbrev pub predecessors_of : Layout → Shape → ℕ → Counts → Sides → List Move → List ℕ
predecessors_of l board n c s moves = predecessors_in (order_of l) board n c s moves

abbrev pub AddsPredecessors : Layout → Shape → ℕ → Counts → Sides → List ℕ → List ℕ → Type 0
AddsPredecessors l board n c s old new = AddsPredecessorsIn (order_of l) board n c s old new
