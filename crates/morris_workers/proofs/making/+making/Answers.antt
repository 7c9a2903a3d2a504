-- A worker that is started in a thread of its own has a new seat, and so have those before it.
use Rattle.std.proofs.Common.{◌≡◌, length, refl, sym, ap, subst, ◌∙◌, rules}
use Rattle.morris_workers.specs.Making.{AreDrawn, AreAllDrawn}
use Rattle.morris_workers.specs.Tickets.{IsNewSeatOf}
use Rattle.morris_workers.proofs.Firsts.{of_front_and_last, as_long}
use Rattle.morris_workers.proofs.InOrder.{alone, with_last}
use Rattle.morris_workers.proofs.making.+making.Goals as goal

pub make_drawn-requires-clause-seat : goal.make_drawn-requires-clause-seat
make_drawn-requires-clause-seat g t c κs within =
    (of_front_and_last (IsNewSeatOf c.args.tickets.now) c.args.seats.now c.in-Some.last.now c.in-Some.rest.now c.in-Some.ensures.cases.0 c.requires.new).1

pub join_mut-more-requires-after_bounds : goal.join_mut-more-requires-after_bounds
join_mut-more-requires-after_bounds g t c κs within =
    let new = of_front_and_last (IsNewSeatOf c.args.tickets.now) c.args.seats.now c.in-Some.last.now c.in-Some.rest.now c.in-Some.ensures.cases.0 c.requires.new in
    search (rules, new.0, new.1)

pub returns-then-is_empty : goal.returns-then-is_empty
returns-then-is_empty g t c =
    let none : length c.in-Some.rest.now ≡ 0 = search rules in
    record {
      count = as_long c.in-Some.rest.now c.in-Some.rest.now c.in-Some.last.now c.make_drawn.new.seat c.args.seats.now c.in-Some.ensures.cases.0 refl;
      drawn = alone c.args.tickets.now (g.G.Name.Levels.net (g.G.Graph.level c.args.graph.now)) c.in-Some.rest.now c.make_drawn.new.seat c.make_drawn.result none c.make_drawn.ensures.drawn;
      reported = c.make_drawn.ensures.reported;
    }

pub returns-clause-count : goal.returns-clause-count
returns-clause-count g t c =
    let join = c.join_mut-more in
    let others : length join.new.g.5.now ≡ length c.in-Some.rest.now = search rules in
    let rest : c.rest-1.given.0 ≡ join.new.g.5.now = c.rest-1.given.1.1 (search rules) in
    as_long c.in-Some.rest.now c.rest-1.given.0 c.in-Some.last.now c.last-2-1.given.0 c.args.seats.now c.in-Some.ensures.cases.0 (ap length rest ∙ others)

pub returns-clause-drawn : goal.returns-clause-drawn
returns-clause-drawn g t c =
    let tickets = c.args.tickets.now in
    let net = g.G.Name.Levels.net (g.G.Graph.level c.args.graph.now) in
    let join = c.join_mut-more in
    let others : AreAllDrawn tickets net join.new.g.5.now join.result.1 = search rules in
    let mine : AreDrawn tickets net join.new.f.4.now join.result.0 = search rules in
    let rest : c.rest-1.given.0 ≡ join.new.g.5.now = c.rest-1.given.1.1 (search rules) in
    let last : c.last-2-1.given.0 ≡ join.new.f.4.now = c.last-2-1.given.1 (search rules) in
    with_last tickets net c.rest-1.given.0 c.last-2-1.given.0 join.result.1 join.result.0 c.both.result c.both.ensures
    (subst (λ seats. AreAllDrawn tickets net seats join.result.1) (sym rest) others) (subst (λ seat. AreDrawn tickets net seat join.result.0) (sym last) mine)
