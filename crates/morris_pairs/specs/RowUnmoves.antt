-- The un-moves of the stones of the side with more stones, for all positions of a row at once.
use Rattle.std.specs.Prelude.{◌≡◌, ℕ, ◌<◌, Bool, true, false, not, ◌&&◌, nat_eq, List, ◌++◌, map, filter}
use Rattle.std.specs.List.{range_with_len, flat_map, All}
use Rattle.morris_board.specs.Boards.{Shape}
use Rattle.morris_board.specs.Sets.{has, members, count_of}
use Rattle.morris_board.specs.Positions.{Sides}
use Rattle.morris_board.specs.Symmetries.{image_of, image_sides, inverse_of}
use Rattle.morris_moves.specs.Rules.{goes, in_mill, move_stone}
use Rattle.morris_index.specs.Classes.{is_canonicalizing, symmetry_of}
use Rattle.morris_index.specs.Moves.{unmove_sides}
use Rattle.morris_index.specs.Pairs.{Counts}
use Rattle.morris_index.specs.Standings.{IsCanonicalStanding}
use Rattle.morris_pairs.specs.Orders.{row_index_of}
use Rattle.morris_pairs.specs.declared.row_unmoves.RowUnmove.{RowUnmove}

-- whether the stone of `stones` on v may have come from u by a quiet move, where no stone of the
-- other side stands on u
abbrev pub may_have_come : Shape → ℕ → ℕ → ℕ → Bool
may_have_come board stones v u = not (has stones u) && (goes board (count_of stones) u v && not (in_mill board stones v))

-- Whether symmetry s gives an un-move of `stones`, where the side has the stones `mover` before the
-- move: it takes `mover` to its canonical form, and its inverse is the canonicalizing symmetry of
-- the image of `stones`.
abbrev pub gives_unmove_of : Shape → ℕ → ℕ → ℕ → Bool
gives_unmove_of board stones mover s = is_canonicalizing board mover s && nat_eq (symmetry_of board (image_of (board.image s) stones)) (inverse_of s)

-- a quiet move from one point to another, and a symmetry that gives an un-move by it
pub record Unmove : Type 0 where
  pub from : ℕ
  pub to : ℕ
  pub symmetry : ℕ

abbrev pub unmove_by : ℕ → ℕ → ℕ → Unmove
unmove_by v u s = record { from = u; to = v; symmetry = s }

-- the un-moves of `stones` by the move from u to v, one for each symmetry that gives one
unfoldable pub unmoves_from : Shape → ℕ → ℕ → ℕ → List Unmove
unmoves_from board stones v u = map (unmove_by v u) (filter (gives_unmove_of board stones (move_stone stones v u)) (range_with_len 0 board.symmetries))

-- the un-moves of `stones` by the moves to v, in order of the point from which the stone came
unfoldable pub unmoves_at : Shape → ℕ → ℕ → List Unmove
unmoves_at board stones v = flat_map (unmoves_from board stones v) (filter (may_have_come board stones v) (range_with_len 0 board.points))

-- all un-moves of `stones`, in order of the point to which the stone went
unfoldable pub unmoves_into : Shape → ℕ → List Unmove
unmoves_into board stones = flat_map (unmoves_at board stones) (members stones)

-- the predecessor of p by such an un-move, on n points
abbrev pub predecessor_by : Shape → ℕ → Counts → Sides → Unmove → ℕ
predecessor_by board n c p k = row_index_of board n c (image_sides (board.image k.symmetry) (unmove_sides p k.from k.to))

-- whether no stone of the player to move stands where the stone came from
abbrev pub comes_free : Sides → Unmove → Bool
comes_free p k = not (has p.own k.from)

-- the predecessors by those un-moves whose stone came from a vacant point
unfoldable pub nodes_by : Shape → ℕ → Counts → Sides → List Unmove → List ℕ
nodes_by board n c p moves = map (predecessor_by board n c p) (filter (comes_free p) moves)

-- ---- the un-moves of a row

abbrev pub unmove_of : RowUnmove → Unmove
unmove_of row_unmove = unmove_by row_unmove.to row_unmove.from row_unmove.symmetry

-- An un-move of a row, on n points, for `other` stones of the other side: its standing is where the
-- nodes of the positions before the move stand, in which the stones of the side that moved are in
-- canonical form.
pub record IsRowUnmove (board : Shape) (n : ℕ) (c : Counts) (stones other : ℕ) (row_unmove : RowUnmove) : Type 0 where
  pub within : row_unmove.from < n
  pub from : has stones row_unmove.from ≡ false
  pub to : has stones row_unmove.to ≡ true
  pub symmetry_within : row_unmove.symmetry < board.symmetries
  pub own : row_unmove.standing.own ≡ image_of (board.image row_unmove.symmetry) (move_stone stones row_unmove.to row_unmove.from)
  pub stands : IsCanonicalStanding board n c other row_unmove.standing

-- the un-moves of the row of `stones`, all of them
pub record AreRowUnmoves (board : Shape) (n : ℕ) (c : Counts) (stones other : ℕ) (unmoves : List RowUnmove) : Type 0 where
  pub listed : map unmove_of unmoves ≡ unmoves_into board stones
  pub each : All (IsRowUnmove board n c stones other) unmoves

-- these un-moves were added to those of a row
pub record AddsUnmoves (board : Shape) (n : ℕ) (c : Counts) (stones other : ℕ) (moves : List Unmove) (old new : List RowUnmove) : Type 0 where
  pub listed : map unmove_of new ≡ map unmove_of old ++ moves
  pub each : All (IsRowUnmove board n c stones other) old → All (IsRowUnmove board n c stones other) new
