use Rattle.std.proofs.Common.{◌≡◌, false}
use Rattle.morris_workers.specs.Tickets.{IsSeatOf, has_ended}
use Rattle.morris_engine_tests.proofs.tickets_tests.draw_all.Given as goal

abbrev pub invariant-loop : goal.invariant-loop
invariant-loop l = record {
  seat : IsSeatOf l.tickets l.seat;
  ready : has_ended l.seat ≡ false;
}
