use Rattle.std.proofs.Common.{arith}
use Rattle.std.proofs.lemmas.Result.{err_from_is_err_and}
use Rattle.morris_lookup.proofs.OpeningLaws.{headed, held_known, too_short, unheaded}
use Rattle.morris_lookup.proofs.file_checks.read_header.Goals as goal

pub returns-then-length-clause-refused : goal.returns-then-length-clause-refused
returns-then-length-clause-refused g c =
    too_short _ g.B.Geometry.shape (g.S.Storage.contents c.args.storage.now) c.in_ok-length.length c.in_ok-length.ensures.counted c.if-length.true

pub returns-in_err-layout-clause-refused : goal.returns-in_err-layout-clause-refused
returns-in_err-layout-clause-refused g c =
    let failed = err_from_is_err_and c.from_residual-in_err-layout.result c.from_residual-in_err-layout.ensures.1 in
    rw (failed.1, failed.2)
    (held_known (g.S.Storage.contents c.args.storage.now) (g.S.Storage.held c.args.storage.now) _ (g.met.S.Storage.contents_held c.args.storage.now)
    (unheaded g.B.Geometry.shape c.in_ok-length.length c.read_at.new.out (omega (arith, c.read_at.ensures.size)) (omega (arith, c.if-length.false)) c.from_bytes-header.result
    c.from_bytes-header.ensures (g.S.Storage.held c.args.storage.now) c.in_ok-length.ensures.right c.in_ok-read_at.ensures.right c.in_err-layout.field-0.0
    c.in_err-layout.ensures.value c.in_err-layout.ensures.refused))

pub returns-clause-found : goal.returns-clause-found
returns-clause-found g c =
    headed g.B.Geometry.shape c.in_ok-length.length c.read_at.new.out (omega (arith, c.read_at.ensures.size)) (omega (arith, c.if-length.false)) c.from_bytes-header.result
    c.from_bytes-header.ensures (g.S.Storage.held c.args.storage.now) c.in_ok-length.ensures.right c.in_ok-read_at.ensures.right (c.in_ok-layout.layout, c.in_ok-layout.pair)
    c.in_ok-layout.ensures.value
