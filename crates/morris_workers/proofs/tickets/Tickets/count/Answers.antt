-- The last state of the counter has its rule and the seat's view.
use Rattle.std.proofs.Common.{◌≡◌, sym, subst}
use mathlib.Core.Option.{some}
use lib.ListN.{get_elem?}
use Rattle.morris_workers.proofs.TicketCounts.{counted_at}
use Rattle.morris_workers.proofs.tickets.Tickets.count.Goals as goal

pub returns : goal.returns
returns c =
    let final = c.close_with-closed.ensures.values.2 in
    counted_at _ final.0 final.1.0 _ _ final.1.1 _ _ _
    (subst (λ ws. get_elem? ws 0 ≡ some c.word-word.result) (sym final.2) c.word-word.ensures) c.args.self.limit_is c.min.ensures
