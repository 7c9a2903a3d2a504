use Rattle.std.proofs.Common.{◌≡◌, ◌∙◌, ap, sym}
use Rattle.std.proofs.lemmas.Result.{err_from_is_err_and}
use Rattle.morris_pairs.specs.Entries.{entry_count}
use Rattle.morris_lookup.proofs.OpeningLaws.{framed_not_borne, framed_found}
use Rattle.morris_lookup.proofs.ViewLaws.{header_by_kind}
use Rattle.morris_lookup.proofs.check.check.Goals as goal

pub returns-in_err-layout : goal.returns-in_err-layout
returns-in_err-layout g c =
    let failed = err_from_is_err_and c.from_residual.result c.from_residual.ensures.1 in
    rw (failed.1, failed.2) (header_by_kind g.B.Geometry.shape c.args.bytes.now _ c.in_err-layout.ensures.refused.0)

pub returns-in_err-check_length : goal.returns-in_err-check_length
returns-in_err-check_length g c =
    let failed = err_from_is_err_and c.from_residual-in_err-check_length.result c.from_residual-in_err-check_length.ensures.1 in
    rw (failed.1, failed.2)
    (header_by_kind g.B.Geometry.shape c.args.bytes.now _
    (framed_not_borne g.B.Geometry.shape c.args.bytes.now (c.in_ok-layout.layout, c.in_ok-layout.pair) c.in_ok-layout.stated c.in_ok-layout.length c.in_ok-layout.ensures.found
    g.B.Geometry.POINTS g.met.B.Geometry.point_count c.count_of-entries.result c.count_of-entries.ensures.value c.in_err-check_length.field-0.0 c.in_err-check_length.ensures.value))

pub returns : goal.returns
returns g c =
    let entries : c.count_of-entries.result ≡ entry_count g.B.Geometry.shape g.B.Geometry.shape.points c.in_ok-layout.layout c.in_ok-layout.pair =
    c.count_of-entries.ensures.value ∙ ap (λ n. entry_count g.B.Geometry.shape n c.in_ok-layout.layout c.in_ok-layout.pair) (sym g.met.B.Geometry.point_count) in
    let board : c.ID.result ≡ g.B.Geometry.shape.id = c.ID.ensures ∙ sym g.met.B.Geometry.file_id in
    rw (c.version_of.ensures, board, c.greater.ensures.value, c.lesser.ensures.value, entries)
    (header_by_kind g.B.Geometry.shape c.args.bytes.now _
    (framed_found g.B.Geometry.shape c.args.bytes.now (c.in_ok-layout.layout, c.in_ok-layout.pair) c.in_ok-layout.stated c.in_ok-layout.length c.in_ok-layout.ensures.found
    g.B.Geometry.POINTS g.met.B.Geometry.point_count c.count_of-entries.result c.count_of-entries.ensures.value c.in_ok-check_length.field-0 c.in_ok-check_length.ensures.value))
