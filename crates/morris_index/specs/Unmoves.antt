-- The entries of the predecessors of a position, where the positions of a pair are numbered by
-- classes. Only a position with the player to move on a representative has an entry of its own, so
-- a symmetry takes a predecessor to such a one, and the un-move with it.
use Rattle.std.specs.Prelude.{◌≡◌, ◌≢◌, ℕ, ◌<◌, ◌^◌, ◌↔◌, Bool, true, not, ◌&&◌, ◌||◌, nat_eq, nat_lt, List, ◌++◌, map, filter, length}
use Rattle.std.specs.List.{range_with_len, AllPairs, Contains, HoldsAt}
use Rattle.morris_board.specs.Boards.{Shape}
use Rattle.morris_board.specs.Sets.{has, count_of}
use Rattle.morris_board.specs.Positions.{Sides, IsPosition}
use Rattle.morris_board.specs.Symmetries.{image_of, image_sides, inverse_of}
use Rattle.morris_index.specs.Classes.{is_canonicalizing, symmetry_of, representative_of, class_of}
use Rattle.morris_index.specs.ClassPairs.{canonical_form, class_index_of}
use Rattle.morris_index.specs.Moves.{InPair, unmove_sides, move_sides}
use Rattle.morris_index.specs.Pairs.{Counts, is_of}

-- an un-move: the quiet move that it takes back, and the position in which that is made
pub record Unmove : Type 0 where
  pub start : Sides
  pub from : ℕ
  pub to : ℕ

abbrev pub unmove : Sides → ℕ → ℕ → Unmove
unmove start from to = record { start = start; from = from; to = to }

-- the position after the move
abbrev pub end_of : Unmove → Sides
end_of x = move_sides x.start x.from x.to

-- An un-move comes down to that of p from v back to u: its move is made in a position of the pair
-- that has an entry of its own, by a stone of the player to move, to a vacant point; and p is the
-- canonical form of the position after it, whose canonicalizing symmetry takes the two points of
-- the move to u and v.
pub record ComesDownTo (board : Shape) (n : ℕ) (c : Counts) (p : Sides) (u v : ℕ) (x : Unmove) : Type 0 where
  pub lawful : IsPosition board x.start
  pub counts : is_of c x.start ≡ true
  pub own : representative_of board x.start.own ≡ x.start.own
  pub stone : has x.start.own x.from ≡ true
  pub inside : x.to < n
  pub vacant : not (has x.start.own x.to || has x.start.other x.to) ≡ true
  pub lands : canonical_form board (end_of x) ≡ p
  pub leaves : board.image (symmetry_of board (end_of x).own) x.from ≡ u
  pub arrives : board.image (symmetry_of board (end_of x).own) x.to ≡ v

-- Numbers were added at the end of a list: for each un-move that comes down to that of p from v
-- back to u, the entry of the position in which the move is made, and no others.
pub record AddsEntries (board : Shape) (n : ℕ) (c : Counts) (p : Sides) (u v : ℕ) (old new : List ℕ) : Type 0 where
  pub unmoves : List Unmove
  pub listed : (x : Unmove) → Contains unmoves x ↔ ComesDownTo board n c p u v x
  pub once : AllPairs (λ x y. x ≢ y) unmoves
  pub added : new ≡ old ++ map (λ (x : Unmove). class_index_of board n c x.start) unmoves

-- Whether symmetry s gives an un-move for a move to p, where `mover` are the stones, before it, of
-- the player who makes it. It does if it takes the predecessor to a position with an entry of its
-- own, and the move to one whose result has the canonical form p: s is canonicalizing for `mover`,
-- and in the transversal of the other player's stones.
abbrev pub gives_unmove : Shape → Sides → ℕ → ℕ → Bool
gives_unmove board p mover s = is_canonicalizing board mover s && nat_eq (symmetry_of board (image_of (board.image s) p.own)) (inverse_of s)

-- The entries of the predecessors of p by the un-move from v back to u: one for each symmetry that
-- gives an un-move.
unfoldable pub entry_predecessors : Shape → ℕ → Counts → Sides → ℕ → ℕ → List ℕ
entry_predecessors board n c p u v =
    map (λ s. class_index_of board n c (image_sides (board.image s) (unmove_sides p u v)))
    (filter (gives_unmove board p (unmove_sides p u v).own) (range_with_len 0 board.symmetries))

-- x has the transversal of a set, the symmetries whose inverse is the canonicalizing symmetry of
-- the image of the set under them, and no other numbers
abbrev pub IsTransversal : Shape → ℕ → ℕ → Type 0
IsTransversal board set x = (s : ℕ)
    → has x s ≡ (nat_lt s board.symmetries && nat_eq (symmetry_of board (image_of (board.image s) set)) (inverse_of s))

-- The transversals of the representatives of the classes of sets of `count` points, on n points,
-- that are numbered below `to`.
pub record AreTransversals (board : Shape) (n count to : ℕ) (table : List ℕ) : Type 0 where
  pub len : length table ≡ to
  pub each : (set : ℕ) → set < 2 ^ n → count_of set ≡ count → representative_of board set ≡ set → class_of board set < to
      → HoldsAt (IsTransversal board set) table (class_of board set)

-- a position, with the transversal of the stones of the player to move
pub record HasTransversal (board : Shape) (q : InPair) (transversal : ℕ) : Type 0 where
  pub counts : is_of q.pair q.position ≡ true
  pub lawful : IsPosition board q.position
  pub returns : IsTransversal board q.position.own transversal
