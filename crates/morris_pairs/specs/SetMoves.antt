-- The moves of one player's stones, in a table of sets.
use Rattle.std.specs.Prelude.{◌≡◌, ℕ, ◌%◌, ◌<◌, ◌&&◌, nat_lt}
use Rattle.std.specs.List.{All}
use Rattle.morris_board.specs.Sets.{has}
use Rattle.morris_board.specs.Boards.{Shape}
use Rattle.morris_index.specs.Sums.{total}
use Rattle.morris_pairs.specs.declared.set_moves.SetMoves.{SetMoves}
use Rattle.morris_pairs.specs.declared.set_moves.SetTable.{SetTable}
use Rattle.morris_pairs.specs.NumberedRows.{count_at}
use Rattle.morris_pairs.specs.Rows.{arrivals, may_close}

-- What a table says of a set is right, on n points. It has the arrivals at a point modulo 16: a
-- player has at most nine stones, so that is all of them.
pub record IsSetTabled (board : Shape) (n : ℕ) (tabled : SetMoves) : Type 0 where
  pub each : (v : ℕ) → v < n → count_at tabled.arrivals v ≡ arrivals board tabled.own v % 16
  pub all : tabled.all ≡ total (arrivals board tabled.own) n
  pub closing : (v : ℕ) → has tabled.closing v ≡ (nat_lt v n && may_close board tabled.own v)

-- what a table says of each of its sets is right, whichever sets these are
abbrev pub AreSetsTabled : Shape → ℕ → SetTable → Type 0
AreSetsTabled board n table = All (IsSetTabled board n) table.sets.items
