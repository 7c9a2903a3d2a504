-- Boards: their points, which of them are adjacent, and their mills.
use Rattle.std.specs.Prelude.{ℕ, zero, suc, ◌+◌, ◌-◌, ◌*◌, ◌/◌, ◌%◌, Bool, false, not, ◌&&◌, ◌||◌, nat_eq, nat_lt, nat_le, List, [], ◌∷◌, ◌++◌, map, filter, if◌then◌else◌}
use Rattle.std.specs.List.{range_with_len, list_any, list_all, flat_map}
use Rattle.morris_board.specs.Sets.{has, set_where, set_of}

-- A board: its number in the file of a table; how many points it has, numbered from 0; its edges,
-- each from a point to a neighbour and written in one direction; its mills, each as its three
-- points in ascending order; and its symmetries, the ways to lay it on itself: how many there are,
-- numbered from 0, and to which point each of them takes a point.
pub record Shape : Type 0 where
  pub id : ℕ
  pub points : ℕ
  pub edges : List (ℕ × ℕ)
  pub mills : List (List ℕ)
  pub symmetries : ℕ
  pub image : ℕ → ℕ → ℕ

-- whether an edge joins the points p and q, in either direction
unfoldable pub is_adjacent : Shape → ℕ → ℕ → Bool
is_adjacent board p q = list_any (λ e. (nat_eq e.0 p && nat_eq e.1 q) || (nat_eq e.0 q && nat_eq e.1 p)) board.edges

-- the set of the points adjacent to p
unfoldable pub adjacent : Shape → ℕ → ℕ
adjacent board p = set_where board.points (is_adjacent board p)

-- the mills, each as a set of points
unfoldable pub mills_of : Shape → List ℕ
mills_of board = map set_of board.mills

-- the mills that have the point p
unfoldable pub mills_through : Shape → ℕ → List ℕ
mills_through board p = filter (λ mill. has mill p) (mills_of board)

-- whether a list is three points below n, in ascending order
abbrev pub is_mill : ℕ → List ℕ → Bool
is_mill n (p ∷ q ∷ r ∷ []) = nat_lt p q && (nat_lt q r && nat_lt r n)
is_mill n _ = false

-- whether a shape is a board: at most 24 points, each edge between two different ones of them, and
-- each mill three of them
unfoldable pub is_board : Shape → Bool
is_board board = nat_le board.points 24
    && (list_all (λ e. nat_lt e.0 board.points && (nat_lt e.1 board.points && not (nat_eq e.0 e.1))) board.edges && list_all (is_mill board.points) board.mills)

-- the mill of three points
abbrev mill : ℕ → ℕ → ℕ → List ℕ
mill p q r = p ∷ q ∷ r ∷ []

-- Grid is laid on itself by turns, before which it may be mirrored. A quarter turn takes row r and
-- column c to row c and column 2 - r.
abbrev quarter_turn : ℕ → ℕ
quarter_turn p = 3 * (p % 3) + (2 - p / 3)

abbrev quarter_turns : ℕ → ℕ → ℕ
quarter_turns zero p = p
quarter_turns (suc n) p = quarter_turn (quarter_turns n p)

-- the mirror takes row r and column c to row c and column r
abbrev mirror : ℕ → ℕ
mirror p = 3 * (p % 3) + p / 3

-- Symmetry s mirrors where s is 4 or more, and then makes s mod 4 quarter turns.
unfoldable pub grid_image : ℕ → ℕ → ℕ
grid_image s p = quarter_turns (s % 4) (if nat_le 4 s then mirror p else p)

-- Grid: nine points in three rows and three columns, point 3 * r + c in row r and column c.
-- Neighbours in a row and neighbours in a column are adjacent; the rows and then the columns are
-- the mills.
unfoldable pub grid : Shape
grid = record {
  id = 1;
  points = 9;
  edges = flat_map (λ r. (3 * r, 3 * r + 1) ∷ (3 * r + 1, 3 * r + 2) ∷ []) (0 ∷ 1 ∷ 2 ∷ [])
      ++ flat_map (λ c. (c, 3 + c) ∷ (3 + c, 6 + c) ∷ []) (0 ∷ 1 ∷ 2 ∷ []);
  mills = mill 0 1 2 ∷ mill 3 4 5 ∷ mill 6 7 8 ∷ mill 0 3 6 ∷ mill 1 4 7 ∷ mill 2 5 8 ∷ [];
  symmetries = 8;
  image = grid_image;
}

-- Nine is laid on itself by turning or mirroring its rings, all in the same way, and by exchanging
-- the outer and the inner ring. Turned by c quarters, place k of a ring comes to place k + 2c; if
-- it is mirrored too, to place 2c - k. Places are counted modulo 8.
abbrev place_image : Bool → ℕ → ℕ → ℕ
place_image is_mirrored c k = if is_mirrored then (2 * c + (8 - k)) % 8 else (k + 2 * c) % 8

-- ring r stays, or the outer and the inner one are exchanged
abbrev ring_image : Bool → ℕ → ℕ
ring_image is_exchanged r = if is_exchanged then 2 - r else r

-- Symmetry s turns by s mod 4 quarters, mirrors where (s / 4) mod 2 is 1, and exchanges the rings
-- where s is 8 or more.
unfoldable pub nine_image : ℕ → ℕ → ℕ
nine_image s p = 8 * ring_image (nat_le 8 s) (p / 8) + place_image (nat_eq ((s / 4) % 2) 1) (s % 4) (p % 8)

-- Nine, the usual board: three rings of eight points, outer, middle and inner; point 8 * r + k is
-- place k of ring r, clockwise from the top left corner. Neighbours on a ring are adjacent, and the
-- middles of the sides (k odd) are joined from ring to ring. The mills are the four sides of each
-- ring, and the three middles of each side.
unfoldable pub nine : Shape
nine = record {
  id = 0;
  points = 24;
  edges = flat_map (λ r. map (λ k. (8 * r + k, 8 * r + (k + 1) % 8)) (range_with_len 0 8)) (0 ∷ 1 ∷ 2 ∷ [])
      ++ flat_map (λ k. (k, 8 + k) ∷ (8 + k, 16 + k) ∷ []) (1 ∷ 3 ∷ 5 ∷ 7 ∷ []);
  mills = mill 0 1 2 ∷ mill 2 3 4 ∷ mill 4 5 6 ∷ mill 0 6 7
      ∷ mill 8 9 10 ∷ mill 10 11 12 ∷ mill 12 13 14 ∷ mill 8 14 15
      ∷ mill 16 17 18 ∷ mill 18 19 20 ∷ mill 20 21 22 ∷ mill 16 22 23
      ∷ mill 1 9 17 ∷ mill 3 11 19 ∷ mill 5 13 21 ∷ mill 7 15 23 ∷ [];
  symmetries = 16;
  image = nine_image;
}
