use Rattle.morris_board.proofs.PrinterLaws.{Takes-held, and_then}
use Rattle.morris_board.proofs.streams.printer.Printer.put_bytes.Goals as goal

pub returns-then-bytes-remaining_capacity : goal.returns-then-bytes-remaining_capacity
returns-then-bytes-remaining_capacity g c =
    Takes-held g.S.Sink.contents g.S.Sink.failures c.args.self.now c.hold.new.self c.args.bytes.now c.hold.ensures.same c.hold.ensures.outlet c.hold.ensures.held

pub returns-else-bytes-remaining_capacity : goal.returns-else-bytes-remaining_capacity
returns-else-bytes-remaining_capacity g c = and_then c.flush.ensures.takes c.pass.ensures
