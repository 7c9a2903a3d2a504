-- The positions that differ from a given one by a moved stone, and where they stand in the
-- numbering.
use Rattle.std.specs.Prelude.{◌≡◌, ℕ, ◌+◌, ◌-◌, ◌*◌, nat_eq, Bool, true, if◌then◌else◌}
use Rattle.morris_board.specs.Boards.{Shape}
use Rattle.morris_board.specs.Sets.{members, count_of, with_point, without_point}
use Rattle.morris_board.specs.Positions.{Sides, sides, IsPosition}
use Rattle.morris_index.specs.Binomials.{choose}
use Rattle.morris_index.specs.Numbering.{rank_of, half_size}
use Rattle.morris_index.specs.Pairs.{Counts, IsPair, is_of, index_of}
use Rattle.morris_index.specs.Sums.{AreKept, moved_end, renumbered_end}
use Rattle.morris_index.specs.declared.sums.KeptSums.{KeptSums}

-- a position, and the pair that it is one of
pub record InPair : Type 0 where
  pub pair : Counts
  pub position : Sides

abbrev pub in_pair : Counts → Sides → InPair
in_pair c s = record { pair = c; position = s }

-- The predecessor of s by the un-move from v back to u: the stone stands on u again, and the player
-- who made the move is to move.
abbrev pub unmove_sides : Sides → ℕ → ℕ → Sides
unmove_sides s u v = sides (with_point (without_point s.other v) u) s.own

-- the index of the first position of a pair in which the player to move has so many stones
abbrev pub start_of : ℕ → Counts → ℕ → ℕ
start_of n c own = if nat_eq own c.greater then 0 else half_size n c.greater c.lesser

-- What p comes to, on n points, where p is an end of the way of a stone of the opponent that goes
-- back to a lesser point, or to a greater one: the index of the position before is that of s with
-- the other player to move, and what the end comes to that the stone goes back to, less what the
-- one does that it leaves.
abbrev pub end_taken_back : Bool → ℕ → Sides → ℕ → ℕ
end_taken_back lower n s p = moved_end lower 0 s.other p * choose (n - count_of s.other) (count_of s.own) + renumbered_end lower s.other s.own p

-- a position, on n points, with what the indices of its predecessors are found by
pub record IsTakenBack (board : Shape) (n : ℕ) (q : InPair) (mover waiting : KeptSums) (index sets : ℕ) : Type 0 where
  pub counts : is_of q.pair q.position ≡ true
  pub lawful : IsPosition board q.position
  pub pair : IsPair n q.pair
  pub moved : AreKept 1 0 q.position.other mover
  pub renumbered : AreKept 0 q.position.other q.position.own waiting
  pub swap_sides : index ≡ index_of n q.pair (sides q.position.other q.position.own)
  pub choices : sets ≡ choose (n - count_of q.position.other) (count_of q.position.own)

-- The successor of s by a quiet move from u to v: the stone stands on v, and the opponent is to
-- move.
abbrev pub move_sides : Sides → ℕ → ℕ → Sides
move_sides s u v = sides s.other (with_point (without_point s.own u) v)

-- a position, on n points, with what the indices of its successors are found by
pub record IsMovedOn (board : Shape) (n : ℕ) (q : InPair) (mover : KeptSums) (first : ℕ) : Type 0 where
  pub counts : is_of q.pair q.position ≡ true
  pub lawful : IsPosition board q.position
  pub pair : IsPair n q.pair
  pub moved : AreKept 1 q.position.other q.position.own mover
  pub start : first ≡ start_of n q.pair (count_of q.position.other)
      + rank_of (members q.position.other) * choose (n - count_of q.position.other) (count_of q.position.own)
