-- Quiet un-moves of a position, and the predecessors that they give.
use Rattle.std.specs.Prelude.{◌≡◌, Bool, ◌&&◌, None}
use Rattle.std.specs.List.{Contains}
use Rattle.morris_board.specs.Boards.{Shape}
use Rattle.morris_board.specs.Positions.{Sides, sides, IsPosition}
use Rattle.morris_moves.specs.declared.game_move.Move.{Move}
use Rattle.morris_moves.specs.Order.{Precedes}
use Rattle.morris_moves.specs.Rules.{move_stone, is_vacant, is_legal, moves_of, result_of}

-- a position, and a quiet legal move of it that leads to q
pub record LeadsTo (board : Shape) (q p : Sides) (m : Move) : Type 0 where
  pub position : IsPosition board p
  pub legal : Contains (moves_of board p) m
  pub quiet : m.taken ≡ None
  pub result : result_of p m ≡ q

-- The predecessor of q by a quiet move: the stone of the move stands again where it came from, and
-- the player who made the move is to move.
unfoldable pub unmove : Sides → Move → Sides
unmove q m = sides (move_stone q.other m.to m.from) q.own

-- whether a quiet move leads to q: the point that it leaves is vacant, and the move is legal in the
-- predecessor
unfoldable pub has_come : Shape → Sides → Move → Bool
has_come board q m = is_vacant q m.from && is_legal board (unmove q m) m

-- positions with a move each, in order of these moves
abbrev pub MovePrecedes : Sides × Move → Sides × Move → Type 0
MovePrecedes x y = Precedes x.1 y.1
