-- What callers say of tickets and of the seats that draw from them.
use Rattle.std.specs.Prelude.{◌≡◌, ◌⊎◌, ℕ, ◌<◌, Bool, true, false, List, [], length}
use Rattle.std.specs.List.{flat_map}
use Rattle.morris_workers.specs.declared.tickets.Tickets.{Tickets}
use Rattle.morris_workers.specs.declared.tickets.TicketSeat.{TicketSeat}

-- the numbers that are drawn are those below the limit
abbrev pub limit_of : Tickets → ℕ
limit_of t = t.limit

-- how many seats were made with the tickets
abbrev pub seats_of : Tickets → ℕ
seats_of t = t.table.shared.key.seats

-- the numbers that a seat drew, the first one first
abbrev pub numbers_of : TicketSeat → List ℕ
numbers_of s = s.seat.me.0.drawn

-- the numbers of all these seats, one list after the other
abbrev pub all_numbers : List TicketSeat → List ℕ
all_numbers seats = flat_map numbers_of seats

-- a draw of this seat found no number left
abbrev pub has_ended : TicketSeat → Bool
has_ended s = s.seat.me.0.ended

-- the seat draws from these tickets
pub record IsSeatOf (t : Tickets) (s : TicketSeat) : Type 0 where
  pub table : s.seat.table_id ≡ t.table.shared.table_id
  pub limit : s.seat.me.0.limit ≡ t.limit

-- the same, and it has not drawn yet
pub record IsNewSeatOf (t : Tickets) (s : TicketSeat) : Type 0 where
  pub of : IsSeatOf t s
  pub numbers : numbers_of s ≡ []
  pub ready : has_ended s ≡ false

-- the seat was drawn from: a draw of it found no number left, or gave it one
abbrev pub HasDrawn : TicketSeat → Type 0
HasDrawn s = (has_ended s ≡ true) ⊎ (0 < length (numbers_of s))
