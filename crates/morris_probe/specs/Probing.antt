-- Which table a position's value is read from.
use Rattle.std.specs.Prelude.{Option, Some, None, is_some, if◌then◌else◌}
use Rattle.morris_board.specs.Positions.{Sides}
use Rattle.morris_index.specs.Pairs.{Counts, pair_of}
use Rattle.morris_pairs.specs.Shelves.{Stored, table_on}

-- the pair, where there is one and the shelf has no table of it
abbrev pub without_table : Stored → Option Counts → Option Counts
without_table shelf None = None
without_table shelf (Some pair) = if is_some (table_on shelf pair) then None else Some pair

-- The pair of the position, where the shelf has no table of it. A position whose player to move has
-- two stones is of no pair: its value needs no table.
abbrev pub missing_table : Stored → Sides → Option Counts
missing_table shelf s = without_table shelf (pair_of s)
