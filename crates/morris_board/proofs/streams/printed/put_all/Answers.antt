use Rattle.std.proofs.Common.{◌∙◌, arith}
use Rattle.morris_board.proofs.PrinterLaws.{all_counted, all_told, ends, whole_told}
use Rattle.morris_board.proofs.streams.printed.put_all.Goals as goal

pub returns-clause-same : goal.returns-clause-same
returns-clause-same g c = c.finish.ensures.takes.same ∙ c.put_into.ensures.takes.same

pub returns-clause-sent : goal.returns-clause-sent
returns-clause-sent g c =
    rw c.finish.ensures.told
    (all_told g.S.Sink.contents g.S.Sink.failures c.args.out.now c.finish.new.self (g.P.Printed.bytes c.args.text.now) c.requires.new
    c.finish.ensures.empty (omega (arith, c.put_into.ensures.few c.requires.short)) (ends c.put_into.ensures.takes c.finish.ensures.takes))

pub returns-clause-few : goal.returns-clause-few
returns-clause-few g c = c.put_into.ensures.few c.requires.short

pub returns-clause-whole : goal.returns-clause-whole
returns-clause-whole g c =
    rw c.finish.ensures.told
    (whole_told g.S.Sink.contents g.S.Sink.failures c.args.out.now c.finish.new.self (g.P.Printed.bytes c.args.text.now) c.requires.new
    c.finish.ensures.empty (omega (arith, c.put_into.ensures.few c.requires.short)) (ends c.put_into.ensures.takes c.finish.ensures.takes))

pub returns-clause-counted : goal.returns-clause-counted
returns-clause-counted g c =
    rw c.finish.ensures.told
    (all_counted g.S.Sink.contents g.S.Sink.failures c.args.out.now c.finish.new.self (g.P.Printed.bytes c.args.text.now) c.requires.new
    c.finish.ensures.empty c.requires.failures (ends c.put_into.ensures.takes c.finish.ensures.takes))
