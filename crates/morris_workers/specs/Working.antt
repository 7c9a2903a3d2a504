-- What the seats of workers are once these are back.
use Rattle.std.specs.Prelude.{Result}
use Rattle.std.specs.Result.{OnOk}
use Rattle.morris_workers.specs.Tickets.{IsSeatOf}
use Rattle.morris_workers.specs.declared.tickets.Tickets.{Tickets}
use Rattle.morris_workers.specs.declared.tickets.TicketSeat.{TicketSeat}

-- the seat is one of these tickets, and unless there is a fault it has what is said of it
pub record IsBack {T E : Type 0} (t : Tickets) (said : TicketSeat → Type 0) (outcome : Result T E) (s : TicketSeat) : Type 0 where
  pub of : IsSeatOf t s
  pub drawn : OnOk outcome (said s)
