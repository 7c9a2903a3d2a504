use Rattle.std.proofs.lemmas.Bool.{false≢true}
use Rattle.std.proofs.lemmas.Result.{err_from_is_err_and}
use Rattle.morris_pairs.proofs.ReadingLaws.{room_refused}
use Rattle.morris_pairs.proofs.header.Header.numbering.Goals as goal

pub returns-in_err-numbering-clause-refused : goal.returns-in_err-numbering-clause-refused
returns-in_err-numbering-clause-refused g c =
    let failed = err_from_is_err_and c.from_residual-in_err-numbering.result c.from_residual-in_err-numbering.ensures.1 in
    rw (failed.1, failed.2)
    (room_refused g.B.Geometry.shape c.args.self.now c.in_ok-layout.layout c.in_ok-layout.pair c.in_ok-layout.ensures.value
    (λ full. false≢true (c.in_err-numbering.ensures.full full)))
