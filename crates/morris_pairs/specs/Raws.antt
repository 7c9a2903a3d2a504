-- Tables that nobody has verified yet.
use Rattle.std.specs.Prelude.{◌≡◌, ℕ, ◌<◌, ◌≤◌, length, slice_index}
use Rattle.morris_board.specs.Boards.{Shape}
use Rattle.morris_index.specs.Pairs.{IsPair}
use Rattle.morris_pairs.specs.Entries.{entry_count}
use Rattle.morris_pairs.specs.Tables.{Table}

-- A raw table has one number of 16 bits for each entry of its pair in its layout. Nothing is said
-- of what the numbers are.
pub record IsRaw (board : Shape) (t : Table) : Type 0 where
  pub lawful : IsPair board.points t.pair
  pub counted : length t.codes ≡ entry_count board board.points t.layout t.pair
  pub small : (i : ℕ) → i < length t.codes → slice_index t.codes i ≤ 65535
