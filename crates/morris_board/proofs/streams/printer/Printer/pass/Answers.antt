use Rattle.std.proofs.Common.{ap, ◌++◌, refl}
use Rattle.morris_board.proofs.PrinterLaws.{Takes-held, Takes-out}
use Rattle.morris_board.proofs.streams.printer.Printer.pass.Goals as goal

pub returns-then-bytes-gt-HELD : goal.returns-then-bytes-gt-HELD
returns-then-bytes-gt-HELD g c =
    let bytes = c.args.bytes.now in
    Takes-out g.S.Sink.contents g.S.Sink.failures c.args.self.now _ bytes bytes refl (ap (λ xs. xs ++ bytes) c.requires) c.requires c.let_out.ensures

pub returns-else-bytes-gt-HELD : goal.returns-else-bytes-gt-HELD
returns-else-bytes-gt-HELD g c =
    Takes-held g.S.Sink.contents g.S.Sink.failures c.args.self.now c.hold.new.self c.args.bytes.now c.hold.ensures.same c.hold.ensures.outlet c.hold.ensures.held
