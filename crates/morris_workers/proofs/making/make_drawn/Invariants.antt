use Rattle.std.proofs.Common.{◌≡◌, ◌-◌, false, length}
use Rattle.morris_workers.specs.Tickets.{IsSeatOf, limit_of, numbers_of, has_ended}
use Rattle.morris_workers.specs.Making.{block_numbers}
use Rattle.morris_workers.proofs.making.make_drawn.Given as goal

abbrev pub decreases-loop-number : goal.decreases-loop-number
decreases-loop-number g l = limit_of l.tickets - length (numbers_of l.seat)

abbrev pub invariant-loop-number : goal.invariant-loop-number
invariant-loop-number g l = record {
  seat : IsSeatOf l.tickets l.seat;
  ready : has_ended l.seat ≡ false;
  numbers : block_numbers l.made.items ≡ numbers_of l.seat;
  reported : g.W.Watch.becomes l.fn.watch l.watch;
}
