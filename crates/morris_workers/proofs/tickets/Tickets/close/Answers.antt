-- What the counter says of the seat to which all were joined, it says of all the seats.
use Rattle.std.proofs.Common.{◌≡◌, ◌<◌, ◌≤◌, length, ap, subst, arith}
use Rattle.std.specs.List.{All}
use Rattle.std.proofs.lemmas.List.Concat.{length-flat_map}
use Rattle.morris_wave.specs.Nets.{times}
use Rattle.morris_workers.specs.Tickets.{numbers_of}
use Rattle.morris_workers.proofs.TicketCounts.{all_below}
use Rattle.morris_workers.proofs.tickets.Tickets.close.Goals as goal

pub returns-clause-once : goal.returns-clause-once
returns-clause-once c = λ x. subst (λ xs. times x xs ≤ 1) c.join_all-all.ensures.joined.numbers (c.count.ensures.once x)

pub returns-clause-below : goal.returns-clause-below
returns-clause-below c =
    let below = subst (All (λ x. x < c.count.result)) c.join_all-all.ensures.joined.numbers (all_below _ _ c.count.ensures.below) in
    λ k d h. let under = below k d h in omega arith

pub returns-clause-held : goal.returns-clause-held
returns-clause-held c =
    let same = ap length c.join_all-all.ensures.joined.numbers in
    omega (arith, same, c.join_all-all.ensures.held, c.count.ensures.few, c.count.ensures.most, c.args.self.small_limit, length-flat_map numbers_of c.args.seats.items)

pub returns-clause-whole : goal.returns-clause-whole
returns-clause-whole c = λ e x h.
    let same = ap length c.join_all-all.ensures.joined.numbers in
    let all : c.count.result ≡ length c.join_all-all.result.0.me.0.drawn = omega (arith, same, e, c.join_all-all.ensures.held, c.count.ensures.few, c.count.ensures.most, c.args.self.small_limit) in
    subst (λ xs. times x xs ≡ 1) c.join_all-all.ensures.joined.numbers (c.count.ensures.whole all x (omega (arith, all, h)))
