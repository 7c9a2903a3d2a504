-- What is known of a table by classes once the members that its entries give to groups by the
-- opponent's set are verified.
use Rattle.std.specs.Prelude.{◌≡◌, ℕ, true, List, map, slice_index}
use Rattle.std.specs.List.{All}
use Rattle.morris_board.specs.Boards.{Shape}
use Rattle.morris_board.specs.Positions.{Sides, IsPosition}
use Rattle.morris_index.specs.Classes.{representative_of}
use Rattle.morris_index.specs.ClassPairs.{class_index_of}
use Rattle.morris_index.specs.ByOpponent.{by_opponent}
use Rattle.morris_index.specs.Moves.{InPair}
use Rattle.morris_index.specs.Pairs.{is_of}
use Rattle.morris_pairs.specs.Agreement.{Agrees}
use Rattle.morris_pairs.specs.Entries.{entry_index}
use Rattle.morris_pairs.specs.Tables.{Table}

-- the code that a table states for a position
abbrev pub code_stated : Shape → Table → InPair → ℕ
code_stated board t q = slice_index t.codes (entry_index board board.points t.layout t.pair q.position)

-- the codes that it states for some positions
unfoldable pub codes_stated : Shape → Table → List InPair → List ℕ
codes_stated board t group = map (code_stated board t) group

-- the entry of a position agrees
abbrev pub EntryAgrees : Shape → Table → InPair → Type 0
EntryAgrees board t q = Agrees board t (entry_index board board.points t.layout t.pair q.position)

-- the entries of all members that entry k gives to its group agree
abbrev pub GroupAgrees : Shape → Table → ℕ → Type 0
GroupAgrees board t k =
    (p : Sides) → IsPosition board p → is_of t.pair p ≡ true → representative_of board p.own ≡ p.own
    → class_index_of board board.points t.pair p ≡ k → All (EntryAgrees board t) (by_opponent board t.pair p)
