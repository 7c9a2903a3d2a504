use Rattle.std.proofs.Common.{[], refl, arith}
use Rattle.morris_board.specs.Printers.{outlet}
use Rattle.morris_board.proofs.PrinterLaws.{went_in_part, went_out}
use Rattle.morris_board.proofs.streams.printer.let_out.Goals as goal

pub returns-in-Ok : goal.returns-in-Ok
returns-in-Ok g c =
    went_out g.S.Sink.contents g.S.Sink.failures (outlet c.args.sink.now c.args.sent.now c.args.failed.now) _ c.args.text.now c.in-Ok.count c.if-failed.false
    c.if-failed.false (λ few. omega (arith, c.saturating_add.ensures, few)) c.in-Ok.ensures.counted c.in-Ok.ensures.sent

pub returns-in-Err : goal.returns-in-Err
returns-in-Err g c =
    went_in_part g.S.Sink.contents g.S.Sink.failures (outlet c.args.sink.now c.args.sent.now c.args.failed.now) _ c.args.text.now [] c.in-Err.count c.if-failed.false
    refl (λ few. omega (arith, c.saturating_add-in-Err.ensures, few)) c.in-Err.ensures.counted c.in-Err.ensures.sent
