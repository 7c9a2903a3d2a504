-- The step preserves the rule, as `draws` says.
use Rattle.std.proofs.Common.{arith}
use Rattle.morris_workers.proofs.DrawSteps.{draws}
use Rattle.morris_workers.proofs.tickets.Tickets.draw.Goals as goal

pub fetch_add-number-requires : goal.fetch_add-number-requires
fetch_add-number-requires c = (
  c.requires.seat.table,
  omega (arith, c.args.self.now.one_word),
  draws _ _ _ _ c.requires.ready (let h = c.args.mine.now.alone in omega arith),
)
