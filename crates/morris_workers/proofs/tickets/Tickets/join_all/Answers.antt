-- The seats are the first one and the others.
use Rattle.std.proofs.Common.{rules}
use Rattle.morris_workers.proofs.SeatLists.{joined_whole}
use Rattle.morris_workers.proofs.tickets.Tickets.join_all.Goals as goal

pub returns-clause-joined : goal.returns-clause-joined
returns-clause-joined c = joined_whole _ _ _ _ _ (search rules) c.remove-first.ensures.value c.remove-first.ensures.by_index.2 c.join_others.ensures.joined
