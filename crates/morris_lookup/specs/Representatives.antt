-- The representatives of the classes of sets of points, in lists.
use Rattle.std.specs.Prelude.{◌≡◌, ℕ, ◌+◌, ◌*◌, ◌/◌, ◌^◌, ◌<◌, List, length, slice_index, filter}
use Rattle.std.specs.List.{range_with_len}
use Rattle.morris_board.specs.Boards.{Shape}
use Rattle.morris_index.specs.Classes.{is_representative}

-- the representatives of the classes of sets of `count` points, in ascending order of their masks
unfoldable pub representatives_of : Shape → ℕ → List ℕ
representatives_of board count = filter (is_representative board count) (range_with_len 0 (2 ^ board.points))

-- The masks of a board with n points are cut into chunks: those of a chunk have the same points
-- above the least third of the board. So many each has.
abbrev pub chunk_size : ℕ → ℕ
chunk_size n = 2 ^ (n / 3)

-- the representatives in a chunk
unfoldable pub representatives_at : Shape → ℕ → ℕ → ℕ → List ℕ
representatives_at board n count number = filter (is_representative board count) (range_with_len (number * chunk_size n) (chunk_size n))

-- A list stands in words from `start` on, as far as there are words, and all of it ends at `end`.
-- Before it the words are the old ones.
pub record AreListed (list : List ℕ) (start end : ℕ) (words old : List ℕ) : Type 0 where
  pub ends : end ≡ start + length list
  pub listed : (i : ℕ) → i < length list → start + i < length words → slice_index words (start + i) ≡ slice_index list i
  pub before : (i : ℕ) → i < start → slice_index words i ≡ slice_index old i
