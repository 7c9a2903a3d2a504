use Rattle.std.proofs.Common.{◌≡◌, ◌-◌, ◌^◌, ◌∷◌, min, length}
use Rattle.morris_workers.specs.TicketSteps.{IsJoined}
use Rattle.morris_workers.proofs.tickets.Tickets.join_others.Given as goal

abbrev pub invariant-loop-seat : goal.invariant-loop-seat
invariant-loop-seat l = record {
  more : (goal.iterator-loop-seat).can_next l.seat-iterator;
  finite : (goal.iterator-loop-seat).is_finite l.seat-iterator;
  joined : IsJoined l.self (l.fn.first ∷ l.yielded) l.all;
  held : l.held ≡ min (length l.all.me.0.drawn) (2 ^ 64 - 1);
}
