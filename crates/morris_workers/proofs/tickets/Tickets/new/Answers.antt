-- A seat that is put after the others is a new seat of the same tickets.
use Rattle.std.proofs.Common.{refl, rules}
use Rattle.morris_workers.proofs.SeatLists.{one_more_seat, first_is_new}
use Rattle.morris_workers.proofs.tickets.Tickets.new.Goals as goal

pub loop-preserved : goal.loop-preserved
loop-preserved c = record {
  count = search rules;
  left = search rules;
  first = search rules;
  new = one_more_seat c.in_ok-tickets.tickets _ _ c.split.result c.in_ok-push.ensures.items c.loop.invariant.new c.split.ensures.new;
}

pub returns-clause-new : goal.returns-clause-new
returns-clause-new c = one_more_seat c.in_ok-tickets.tickets _ _ _ c.in_ok-push-2.ensures.items c.loop.invariant.new
    (first_is_new c.in_ok-tickets.tickets _ c.loop.first _ c.loop.invariant.first refl)
