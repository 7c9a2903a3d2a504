-- Positions grouped by the opponent's set. The quiet moves of all members of a group lead to
-- positions whose canonical forms have one set of the player to move, so that the entries of their
-- results stand together.
use Rattle.std.specs.Prelude.{◌≡◌, ℕ, ◌<◌, ◌≤◌, ◌^◌, true, List, map, filter}
use Rattle.std.specs.List.{range_with_len, All, Contains}
use Rattle.morris_board.specs.Boards.{Shape}
use Rattle.morris_board.specs.Sets.{count_of}
use Rattle.morris_board.specs.Positions.{Sides, sides, IsPosition}
use Rattle.morris_board.specs.Symmetries.{image_of, image_sides, inverse_of}
use Rattle.morris_index.specs.Unmoves.{gives_unmove, IsTransversal}
use Rattle.morris_index.specs.Classes.{symmetry_of, representative_of}
use Rattle.morris_index.specs.ClassMoves.{class_start_of}
use Rattle.morris_index.specs.ClassPairs.{class_index_of, class_size_of}
use Rattle.morris_index.specs.Moves.{InPair, in_pair}
use Rattle.morris_index.specs.Pairs.{Counts, IsPair, is_of}

-- the position with the same stones in which the other player is to move
abbrev pub swap_sides : Sides → Sides
swap_sides s = sides s.other s.own

-- The members that p gives to the group of its player's set: the images of p, with the other player
-- to move, under the symmetries that are canonicalizing for this player's stones and in the
-- transversal of the set. The inverse of such a symmetry is the canonicalizing one of the results
-- of the member's quiet moves, and takes them to positions in which the player to move has the set.
unfoldable pub by_opponent : Shape → Counts → Sides → List InPair
by_opponent board c p = map (λ s. in_pair c (image_sides (board.image s) (swap_sides p))) (filter (gives_unmove board p p.other) (range_with_len 0 board.symmetries))

-- a position of a pair, on n points, that has the entry for its own
pub record IsGroupMember (board : Shape) (n : ℕ) (q : InPair) (entry : ℕ) : Type 0 where
  pub counts : is_of q.pair q.position ≡ true
  pub lawful : IsPosition board q.position
  pub own : representative_of board q.position.own ≡ q.position.own
  pub at : class_index_of board n q.pair q.position ≡ entry
  pub inside : entry < class_size_of board n q.pair

-- In p the opponent stands on a representative, and the symmetry is in its transversal.
pub record IsInTransversal (board : Shape) (p : Sides) (symmetry : ℕ) : Type 0 where
  pub within : symmetry < board.symmetries
  pub least : representative_of board p.other ≡ p.other
  pub back : symmetry_of board (image_of (board.image symmetry) p.other) ≡ inverse_of symmetry

-- A position p of the pair, on n points, whose image under the symmetry has an entry for its own:
-- its opponent stands on the group's set, `place`, and `first` is the first entry in which the
-- player to move has this set.
pub record IsGroupMemberFrom (board : Shape) (n : ℕ) (c : Counts) (p : Sides) (symmetry place first : ℕ) : Type 0 where
  pub counts : is_of c p ≡ true
  pub lawful : IsPosition board p
  pub pair : IsPair n c
  pub canonical_form : IsInTransversal board p symmetry
  pub place_is : place ≡ p.other
  pub start : first ≡ class_start_of board n c p.other (count_of p.own)
  pub few : first ≤ 2 ^ 54

-- The group of the stones of the player to move in a position: their transversal, and the first
-- entry in which the player to move has these stones.
pub record IsOpponentGroup (board : Shape) (n : ℕ) (q : InPair) (transversal first : ℕ) : Type 0 where
  pub counts : is_of q.pair q.position ≡ true
  pub lawful : IsPosition board q.position
  pub pair : IsPair n q.pair
  pub returns : IsTransversal board q.position.own transversal
  pub start : first ≡ class_start_of board n q.pair q.position.own (count_of q.position.other)
  pub few : first ≤ 2 ^ 54

-- Some positions of a pair, on n points: among them are all members that the positions with entries
-- of their own give, for the entries from `first` up to, not including, `end`.
pub record AreByOpponent (board : Shape) (n : ℕ) (c : Counts) (first end : ℕ) (by_opponents : List InPair) : Type 0 where
  pub pairs : All (λ (q : InPair). q.pair ≡ c) by_opponents
  pub each : (p : Sides) → IsPosition board p → is_of c p ≡ true → representative_of board p.own ≡ p.own
      → first ≤ class_index_of board n c p → class_index_of board n c p < end
      → (q : InPair) → Contains (by_opponent board c p) q → Contains by_opponents q
