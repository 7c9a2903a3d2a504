use Rattle.std.proofs.Common.{◌≡◌, ◌∙◌, false, sym, true}
use Rattle.morris_board.proofs.PrinterLaws.{Takes-nil, and_then}
use Rattle.morris_jobs.specs.Progress.{is_passing}
use Rattle.morris_jobs.proofs.print_progress.LinePrinted.put_into.Goals as goal

-- a line of its own
pub returns-then-not-rewrites-clause-takes : goal.returns-then-not-rewrites-clause-takes
returns-then-not-rewrites-clause-takes g c =
    rw c.if-not-rewrites.true (and_then c.put_event.ensures c.put.ensures)

pub returns-then-is_passing-clause-takes : goal.returns-then-is_passing-clause-takes
returns-then-is_passing-clause-takes g c =
    let passing : is_passing c.args.self.now.event ≡ true = sym c.is_passing.ensures ∙ c.if-is_passing.true in
    rw (c.if-not-rewrites.false, passing)
    (and_then (and_then (and_then c.put-2.ensures c.put_event-2.ensures) c.put-3.ensures) (Takes-nil g.S.Sink.contents g.S.Sink.failures c.put-3.new.self))

pub returns-clause-takes : goal.returns-clause-takes
returns-clause-takes g c =
    let stays : is_passing c.args.self.now.event ≡ false = sym c.is_passing.ensures ∙ c.if-is_passing.false in
    rw (c.if-not-rewrites.false, stays)
    (and_then (and_then (and_then c.put-2.ensures c.put_event-2.ensures) c.put-3.ensures) c.put-4.ensures)
