use Rattle.std.proofs.Common.{[], append-nil, refl}
use Rattle.morris_board.proofs.PrinterLaws.{Takes-out}
use Rattle.morris_board.proofs.streams.printer.Printer.flush.Goals as goal

pub returns-clause-takes : goal.returns-clause-takes
returns-clause-takes g c =
    let held = c.args.self.now.held.items in
    Takes-out g.S.Sink.contents g.S.Sink.failures c.args.self.now _ [] held refl (append-nil held) c.clear.ensures (rw c.as_slice-held.ensures.value at c.let_out.ensures)
