-- A worker that is started in a thread of its own has a new seat, and so have those after it.
use Rattle.std.proofs.Common.{◌≡◌, suc, ◌+◌, ◌<◌, ◌≤◌, ◌∷◌, length, sym, ap, subst, rules, arith}
use Rattle.std.specs.List.{All}
use Rattle.morris_workers.specs.Tickets.{IsNewSeatOf, HasDrawn}
use Rattle.morris_workers.specs.Working.{IsBack}
use Rattle.morris_workers.proofs.Backs.{all_back}
use Rattle.morris_workers.proofs.Firsts.{of_first, of_rest}
use Rattle.morris_workers.proofs.wave.+threads.Goals as goal

pub work-requires-clause-seat : goal.work-requires-clause-seat
work-requires-clause-seat g t c κs within =
    of_first (IsNewSeatOf c.args.tickets.now) c.args.seats.now c.in-Some.seat.now c.in-Some.rest.now c.in-Some.ensures.cases.0 c.requires.new

pub join_mut-last-requires-after_bounds : goal.join_mut-last-requires-after_bounds
join_mut-last-requires-after_bounds g t c κs within =
    let count : length c.args.seats.now ≡ suc (length c.in-Some.rest.now) = ap length c.in-Some.ensures.cases.0 in
    let some : c.args.first < c.args.self.now.shares.now.blocks = omega (arith, count, c.requires.numbers) in
    let few : c.args.first + 1 + length c.in-Some.rest.now ≤ c.args.self.now.shares.now.blocks = omega (arith, count, c.requires.numbers) in
    let seat = of_first (IsNewSeatOf c.args.tickets.now) c.args.seats.now c.in-Some.seat.now c.in-Some.rest.now c.in-Some.ensures.cases.0 c.requires.new in
    let rest = of_rest (IsNewSeatOf c.args.tickets.now) c.args.seats.now c.in-Some.seat.now c.in-Some.rest.now c.in-Some.ensures.cases.0 c.requires.new in
    search (rules, some, few, seat, rest)

pub returns-clause-back : goal.returns-clause-back
returns-clause-back g t c =
    let t = c.args.tickets.now in
    let join = c.join_mut-last in
    let one : IsBack t HasDrawn join.result.0.1 join.new.f.4.now = search rules in
    let others : All (IsBack t HasDrawn join.result.1.1) join.new.g.4.now = search rules in
    let seat : c.seat-2-1.given.0 ≡ join.new.f.4.now = c.seat-2-1.given.1 (search rules) in
    let rest : c.rest-1.given.0 ≡ join.new.g.4.now = c.rest-1.given.1.1 (search rules) in
    subst (λ r. All (IsBack t HasDrawn r) (c.seat-2-1.given.0 ∷ c.rest-1.given.0)) (sym c.and.ensures)
    (all_back t HasDrawn join.result.0.1 join.result.1.1 c.seat-2-1.given.0 c.rest-1.given.0
    (subst (IsBack t HasDrawn join.result.0.1) (sym seat) one) (subst (All (IsBack t HasDrawn join.result.1.1)) (sym rest) others))
