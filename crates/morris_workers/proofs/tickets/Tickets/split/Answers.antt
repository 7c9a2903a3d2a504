-- The split preserves the rule, as `splits` says.
use Rattle.std.proofs.Common.{ap, arith}
use Rattle.morris_workers.proofs.SeatSplits.{splits}
use Rattle.morris_workers.proofs.tickets.Tickets.split.Goals as goal

pub split_seat-requires : goal.split_seat-requires
split_seat-requires c = (
  c.requires.first.table,
  omega (arith, c.args.self.now.one_word),
  splits _ _ _ c.requires.left (omega (arith, ap (λ m. m.0.stands) c.requires.first.view)),
)
