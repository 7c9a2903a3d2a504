use Rattle.std.proofs.Common.{◌≡◌, ◌∙◌, true, false, Err, length, ap, sym}
use Rattle.std.proofs.lemmas.Result.{err_from_is_err_and}
use Rattle.morris_pairs.proofs.CountLaws.{written_back}
use Rattle.morris_pairs.proofs.counting.Entries.tally.Goals as goal

-- want of memory isn't a code that can't be read
pub returns-in_err-tallies-clause-sure : goal.returns-in_err-tallies-clause-sure
returns-in_err-tallies-clause-sure g c = λ unfailing bad.
    let failed = err_from_is_err_and c.from_residual.result c.from_residual.ensures.1 in
    let wrong = sym (failed.1 ∙ ap Err failed.2) ∙ bad in
    cc

-- where no call fails, each code is read
pub returns-in_err-count_into-clause-sure : goal.returns-in_err-count_into-clause-sure
returns-in_err-count_into-clause-sure g c = λ unfailing bad.
    let wrong : false ≡ true = c.in_err-count_into.ensures.sure unfailing in
    cc

pub count_into-requires-clause-none : goal.count_into-requires-clause-none
count_into-requires-clause-none g c = rw c.as_mut_slice.ensures.value c.in_ok-tallies.ensures.none

pub returns-clause-small : goal.returns-clause-small
returns-clause-small g c = λ code.
    rw
    (written_back c.in_ok-tallies.tallies.items c.count_into.new.tallies c.in_ok-tallies.tallies.len c.in_ok-tallies.tallies.ok.0
    (c.count_into.auto.tallies ∙ ap length c.as_mut_slice.ensures.value))
    (c.in_ok-count_into.ensures.small code)

pub returns-clause-counted : goal.returns-clause-counted
returns-clause-counted g c =
    rw
    (written_back c.in_ok-tallies.tallies.items c.count_into.new.tallies c.in_ok-tallies.tallies.len c.in_ok-tallies.tallies.ok.0
    (c.count_into.auto.tallies ∙ ap length c.as_mut_slice.ensures.value))
    c.in_ok-count_into.ensures.counted
