-- The moves of one player's stones, whatever the opponent has.
use Rattle.std.specs.Prelude.{◌≡◌, ℕ, ◌<◌, Bool, not, ◌&&◌, nat_lt, filter, length, slice_index, if◌then◌else◌}
use Rattle.std.specs.List.{list_any}
use Rattle.morris_board.specs.Sets.{has, members, count_of}
use Rattle.morris_board.specs.Boards.{Shape}
use Rattle.morris_board.specs.Positions.{Sides}
use Rattle.morris_moves.specs.Rules.{closes, goes}
use Rattle.morris_index.specs.Sums.{total}
use Rattle.morris_pairs.specs.declared.rows.Row.{Row}

-- how many stones of `own` may come to v by a quiet move, where v is vacant: none where one of them
-- stands there
unfoldable pub arrivals : Shape → ℕ → ℕ → ℕ
arrivals board own v = if has own v then 0 else length (filter (λ u. goes board (count_of own) u v && not (closes board own u v)) (members own))

-- whether a stone of `own` may come to v by a move that closes a mill, where v is vacant
unfoldable pub may_close : Shape → ℕ → ℕ → Bool
may_close board own v = not (has own v) && list_any (λ u. goes board (count_of own) u v && closes board own u v) (members own)

-- of the points on which the opponent doesn't stand, a set has those at which a move closes a mill
abbrev pub AreClosing : Shape → ℕ → Sides → ℕ → Type 0
AreClosing board n s closing = (v : ℕ) → (has closing v && not (has s.other v)) ≡ ((nat_lt v n && may_close board s.own v) && not (has s.other v))

-- whether the stone of `own` on u closes a mill by going to v, where v is vacant
unfoldable pub is_closing_end : Shape → ℕ → ℕ → ℕ → Bool
is_closing_end board own u v = not (has own v) && (goes board (count_of own) u v && closes board own u v)

-- whether it goes to v by a quiet move
unfoldable pub is_quiet_end : Shape → ℕ → ℕ → ℕ → Bool
is_quiet_end board own u v = not (has own v) && (goes board (count_of own) u v && not (closes board own u v))

-- what a row says of its own stones is right
pub record IsRow (board : Shape) (n : ℕ) (row : Row) : Type 0 where
  pub len : length row.arrivals ≡ 24
  pub each : (v : ℕ) → v < n → slice_index row.arrivals v ≡ arrivals board row.own v
  pub all : row.all ≡ total (arrivals board row.own) n
  pub closers_len : length row.closers ≡ 24
  pub closers : (v : ℕ) → v < n → (u : ℕ) → has (slice_index row.closers v) u ≡ (has row.own u && is_closing_end board row.own u v)
  pub closing : (v : ℕ) → has row.closing v ≡ (nat_lt v n && may_close board row.own v)
