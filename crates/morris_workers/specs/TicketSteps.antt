-- The first seat, from which the others are split, and the last one, to which the others were
-- joined.
use Rattle.std.specs.Prelude.{◌≡◌, ℕ, false, List, [], length}
use Rattle.std.specs.List.{list_any}
use Rattle.atomic_table.specs.declared.shared.Seat.{Seat}
use Rattle.morris_workers.specs.declared.draws.View.{View}
use Rattle.morris_workers.specs.declared.tickets.Tickets.{Tickets}
use Rattle.morris_workers.specs.declared.tickets.TicketSeat.{TicketSeat}
use Rattle.morris_workers.specs.Tickets.{all_numbers, has_ended}

-- how many seats can still be split off
abbrev pub splits_of : Seat (Unit {0}) View → ℕ
splits_of s = s.me.0.splits

-- the seat from which so many can still be split: it has not drawn, and holds no slot
pub record IsFirstSeat (t : Tickets) (left : ℕ) (s : Seat (Unit {0}) View) : Type 0 where
  pub table : s.table_id ≡ t.table.shared.table_id
  pub view : s.me ≡ (record { limit = t.limit; drawn = []; splits = left; ended = false; stands = 1 }, [])

-- the seat to which all these seats were joined
pub record IsJoined (t : Tickets) (seats : List TicketSeat) (s : Seat (Unit {0}) View) : Type 0 where
  pub table : s.table_id ≡ t.table.shared.table_id
  pub numbers : s.me.0.drawn ≡ all_numbers seats
  pub stands : s.me.0.stands ≡ length seats
  pub ended : s.me.0.ended ≡ list_any has_ended seats
