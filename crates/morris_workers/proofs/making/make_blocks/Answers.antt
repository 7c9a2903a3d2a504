-- As many seats came back as were made, and one of them found that no number is left: so what was
-- drawn are the numbers below the limit, each once.
use Rattle.std.proofs.Common.{◌≡◌, ◌<◌, ◌≤◌, ℕ, true, List, ◌++◌, length, take, drop, sym, ap, subst, ◌∙◌, arith}
use Rattle.std.specs.List.{All}
use Rattle.std.proofs.lemmas.List.{length-map}
use Rattle.std.proofs.lemmas.List.Concat.{length-flat_map}
use Rattle.std.proofs.lemmas.List.Sorted.{length_permutation}
use Rattle.morris_wave.specs.Blocks.{BlockState}
use Rattle.morris_workers.specs.Making.{block_numbers}
use Rattle.morris_workers.specs.Tickets.{IsSeatOf, numbers_of, all_numbers, has_ended, limit_of}
use Rattle.morris_workers.specs.declared.tickets.TicketSeat.{TicketSeat}
use Rattle.morris_workers.proofs.Firsts.{written_back}
use Rattle.morris_workers.proofs.InOrder.{some_ended, in_order}
use Rattle.morris_workers.proofs.making.make_blocks.Goals as goal

pub close-drawn-requires-clause-seats : goal.close-drawn-requires-clause-seats
close-drawn-requires-clause-seats g c κs =
    let same = written_back c.in_ok-tickets.seats.items c.make_all.new.seats c.in_ok-tickets.seats.len c.in_ok-tickets.seats.ok.0 (c.make_all.ensures.count ∙ ap length c.as_mut_slice.ensures.value) in
    subst (All (IsSeatOf c.in_ok-tickets.tickets)) (sym same) c.make_all.ensures.drawn.of κs

pub returns-clause-share : goal.returns-clause-share
returns-clause-share g c =
    let old : List TicketSeat = c.in_ok-tickets.seats.items in
    let new : List TicketSeat = c.make_all.new.seats in
    let seats : List TicketSeat = take c.in_ok-tickets.seats.len (new ++ drop (length new) old) in
    let same : seats ≡ new = written_back old new c.in_ok-tickets.seats.len c.in_ok-tickets.seats.ok.0 (c.make_all.ensures.count ∙ ap length c.as_mut_slice.ensures.value) in
    let reported = c.in_ok-blocks.ensures.drawn in
    let drawn = c.close-drawn.ensures in
    let blocks : List BlockState = c.in_ok-blocks.blocks.items in
    let sorted : List BlockState = c.sort.new.blocks.items in
    let handed = c.close-drawn.result.handed in
    let numbers : List ℕ = all_numbers seats in
    let are : block_numbers blocks ≡ numbers = reported.numbers ∙ ap all_numbers (sym same) in
    let all_ended : All (λ seat. has_ended seat ≡ true) seats = subst (All (λ seat. has_ended seat ≡ true)) (sym same) reported.ended in
    let some : 1 ≤ length seats = omega (arith, ap length same, c.make_all.ensures.count, ap length c.as_mut_slice.ensures.value, c.in_ok-tickets.seats.ok.0, c.in_ok-tickets.ensures.count) in
    let ended : handed ≡ limit_of c.in_ok-tickets.tickets = drawn.ended (some_ended seats some all_ended) in
    let back = drawn.back (c.in_ok-tickets.ensures.count ∙ sym c.in_ok-tickets.ensures.seats) in
    let count : handed ≡ length numbers = back ∙ (drawn.held ∙ sym (length-flat_map numbers_of seats)) in
    let as_many : length blocks ≡ length numbers = sym (length-map blocks (λ (s : BlockState). s.number)) ∙ ap length are in (
      omega (arith, length_permutation blocks sorted c.sort.ensures.same, as_many, count, ended, c.in_ok-tickets.ensures.limit, c.sort.new.blocks.ok.0),
      in_order blocks sorted numbers are c.sort.ensures.same c.sort.ensures.order drawn.once (subst (λ n. All (λ x. x < n) numbers) count drawn.below),
    )
