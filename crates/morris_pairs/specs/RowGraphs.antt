-- The graph of a pair by rows.
use Rattle.std.specs.Prelude.{◌≡◌, ℕ, ◌+◌, ◌<◌, true, List, slice_index}
use Rattle.morris_board.specs.Boards.{Shape}
use Rattle.morris_board.specs.Positions.{Sides, IsPosition}
use Rattle.morris_index.specs.Pairs.{Counts, IsPair, is_of}
use Rattle.morris_pairs.specs.declared.set_moves.SetTable.{SetTable}
use Rattle.morris_pairs.specs.Orders.{Classes, Rows, index_in, own_in}
use Rattle.morris_pairs.specs.SetMoves.{AreSetsTabled}

-- The graph of a pair of two different numbers, on n points, has the classes of this pair, the
-- classes of the sets of the greater number, and a table of sets.
pub record IsRowGraph (board : Shape) (n : ℕ) (c classes_of : Counts) (sets_of : ℕ) (table : SetTable) : Type 0 where
  pub lawful : IsPair n c
  pub two : c.lesser < c.greater
  pub pair : classes_of ≡ c
  pub sets : sets_of ≡ c.greater
  pub moves : AreSetsTabled board n table

-- The nodes by rows of some positions of a pair with an entry of their own, on n points: of those
-- of the entries by classes from `first` on.
abbrev pub AreNodesFrom : Shape → ℕ → Counts → ℕ → ℕ → List ℕ → Type 0
AreNodesFrom board n c first many nodes =
    (s : Sides) → IsPosition board s → is_of c s ≡ true → own_in board Classes s ≡ true
    → (k : ℕ) → k < many → index_in board n Classes c s ≡ first + k → slice_index nodes k ≡ index_in board n Rows c s

-- The code of an entry of a pair by classes, on n points, among the codes of its nodes by rows: the
-- one that stands at the node of the position with this entry for its own.
abbrev pub IsEntryCode : Shape → ℕ → Counts → List ℕ → ℕ → ℕ → Type 0
IsEntryCode board n c nodes entry code =
    (s : Sides) → IsPosition board s → is_of c s ≡ true → own_in board Classes s ≡ true
    → index_in board n Classes c s ≡ entry → code ≡ slice_index nodes (index_in board n Rows c s)

-- The codes of so many entries of a pair by classes, on n points, from `first` on, among those of
-- its nodes by rows.
abbrev pub AreCodesFrom : Shape → ℕ → Counts → List ℕ → ℕ → ℕ → List ℕ → Type 0
AreCodesFrom board n c nodes first many entries =
    (k : ℕ) → k < many → IsEntryCode board n c nodes (first + k) (slice_index entries k)
