use Rattle.std.proofs.Common.{◌≡◌, ◌+◌, vec_len}
use Rattle.std.specs.List.{All}
use Rattle.morris_workers.specs.Tickets.{IsNewSeatOf}
use Rattle.morris_workers.specs.TicketSteps.{IsFirstSeat, splits_of}
use Rattle.morris_workers.proofs.tickets.Tickets.new.Given as goal

abbrev pub invariant-loop : goal.invariant-loop
invariant-loop l = record {
  count : vec_len l.made + 1 ≡ l.counter;
  left : splits_of l.first + l.counter ≡ l.seats;
  first : IsFirstSeat l.tickets (splits_of l.first) l.first;
  new : All (IsNewSeatOf l.tickets) l.made.items;
}
