-- The entries of a table in chunks of 4,096, which workers take one after the other.
use Rattle.std.specs.Prelude.{◌≡◌, ℕ, ◌+◌, ◌*◌, ◌<◌, ◌≤◌, Bool, true, false, List, slice_index_or, Option, Some, None, IfSome}
use Rattle.morris_board.specs.Boards.{Shape}
use Rattle.morris_index.specs.Pairs.{Counts}
use Rattle.morris_pairs.specs.Agreement.{Agrees}
use Rattle.morris_pairs.specs.Entries.{entry_count}
use Rattle.morris_pairs.specs.OpponentGroups.{GroupAgrees}
use Rattle.morris_pairs.specs.Tables.{Table}
use Rattle.morris_pairs.specs.declared.layout.Layout.TheVariants.{Classes}

-- the classes by which entries are grouped, if there are any, are those of a table's pair, and its
-- entries are those of classes
abbrev pub AreGroupedIn : Table → Option Counts → Type 0
AreGroupedIn t grouping = IfSome grouping (λ c. (c ≡ t.pair) × (t.layout ≡ Classes))

-- What is asked of entry k: with classes, that the entries of all members that it gives to its
-- group agree, and without, that it agrees itself.
abbrev pub IsAsAsked : {A : Type 0} → Shape → Table → Option A → ℕ → Type 0
IsAsAsked board t None k = Agrees board t k
IsAsAsked board t (Some classes) k = GroupAgrees board t k

-- it is so for the entries of a chunk of the table, on n points
abbrev pub ChunkIsAsAsked : {A : Type 0} → Shape → ℕ → Table → Option A → ℕ → Type 0
ChunkIsAsAsked board n t grouping chunk =
    (k : ℕ) → chunk * 4096 ≤ k → k < chunk * 4096 + 4096 → k < entry_count board n t.layout t.pair → IsAsAsked board t grouping k

-- each mark that is set is of such a chunk; the first mark is that of the chunk `first`
abbrev pub AreMarked : {A : Type 0} → Shape → ℕ → Table → Option A → ℕ → List Bool → Type 0
AreMarked board n t grouping first marks = (i : ℕ) → slice_index_or marks i false ≡ true → ChunkIsAsAsked board n t grouping (first + i)
