-- The join preserves the rule, as `joins` says.
use Rattle.std.proofs.Common.{arith}
use Rattle.morris_workers.proofs.SeatJoins.{joins}
use Rattle.morris_workers.proofs.tickets.Tickets.join.Goals as goal

pub join_seat-requires : goal.join_seat-requires
join_seat-requires c = (
  c.requires.all.0,
  c.requires.seat.table,
  c.args.seat.no_slots,
  omega (arith, c.args.self.now.one_word),
  joins _ _ _ _ _ c.requires.all.1 (omega (arith, c.args.seat.alone)),
)
