use Rattle.std.proofs.Common.{◌≡◌, ◌+◌, ◌*◌, Ok, sym, ap, ◌∙◌, arith}
use Rattle.std.specs.Int.{w16, from_be_bytes}
use Rattle.std.proofs.lemmas.Bool.{false≢true}
use Rattle.std.proofs.lemmas.Result.{err_from_is_err_and}
use Rattle.morris_pairs.specs.Codes.{value_in}
use Rattle.morris_pairs.specs.Entries.{entry_count, entry_index}
use Rattle.morris_lookup.specs.Lookups.{code_at}
use Rattle.morris_lookup.specs.Storage.{bytes_at}
use Rattle.morris_lookup.proofs.OpeningLaws.{framed_not_borne, framed_found, size_of_framed}
use Rattle.morris_lookup.proofs.ViewLaws.{said_by_kind, named_heading, read_by_classes, laid_by_classes}
use Rattle.morris_lookup.proofs.views.value_of_file.Goals as goal

pub returns-in_err-layout-clause-said : goal.returns-in_err-layout-clause-said
returns-in_err-layout-clause-said g c = λ serves.
    let failed = err_from_is_err_and c.from_residual.result c.from_residual.ensures.1 in
    rw (failed.1, failed.2) (said_by_kind g.B.Geometry.shape c.args.position.now c.args.bytes.now _ c.in_err-layout.ensures.refused.0)

pub returns-in_err-greater-clause-said : goal.returns-in_err-greater-clause-said
returns-in_err-greater-clause-said g c = λ serves.
    absurd (false≢true (c.in_err-greater.ensures.ready (λ classes. serves (read_by_classes g.B.Geometry.shape c.args.bytes.now c.in_ok-layout.layout c.in_ok-layout.field-0-1 c.in_ok-layout.entries c.in_ok-layout.length
    c.in_ok-layout.ensures.found classes))))

pub returns-in_err-check_length-clause-said : goal.returns-in_err-check_length-clause-said
returns-in_err-check_length-clause-said g c = λ serves.
    let failed = err_from_is_err_and c.from_residual-in_err-check_length.result c.from_residual-in_err-check_length.ensures.1 in
    let right = c.in_ok-greater.ensures.lists_fit (λ classes. serves (read_by_classes g.B.Geometry.shape c.args.bytes.now c.in_ok-layout.layout c.in_ok-layout.field-0-1 c.in_ok-layout.entries c.in_ok-layout.length
    c.in_ok-layout.ensures.found classes)) in
    rw (failed.1, failed.2)
    (said_by_kind g.B.Geometry.shape c.args.position.now c.args.bytes.now _
    (framed_not_borne g.B.Geometry.shape c.args.bytes.now (c.in_ok-layout.layout, c.args.pair) c.in_ok-layout.entries c.in_ok-layout.length
    (named_heading g.B.Geometry.shape c.args.bytes.now c.in_ok-layout.layout c.in_ok-layout.field-0-1 c.in_ok-layout.entries c.in_ok-layout.length c.in_ok-layout.ensures.found
    c.args.pair c.requires.named)
    g.B.Geometry.POINTS g.met.B.Geometry.point_count c.count.result (c.count.ensures.value right) c.in_err-check_length.field-0.0 c.in_err-check_length.ensures.value))

pub returns-then-bytes-place-clause-said : goal.returns-then-bytes-place-clause-said
returns-then-bytes-place-clause-said g c = λ serves.
    let right = c.in_ok-greater.ensures.lists_fit (λ classes. serves (read_by_classes g.B.Geometry.shape c.args.bytes.now c.in_ok-layout.layout c.in_ok-layout.field-0-1 c.in_ok-layout.entries c.in_ok-layout.length
    c.in_ok-layout.ensures.found classes)) in
    let size = size_of_framed g.B.Geometry.shape c.args.bytes.now (c.in_ok-layout.layout, c.args.pair)
    (framed_found g.B.Geometry.shape c.args.bytes.now (c.in_ok-layout.layout, c.args.pair) c.in_ok-layout.entries c.in_ok-layout.length
    (named_heading g.B.Geometry.shape c.args.bytes.now c.in_ok-layout.layout c.in_ok-layout.field-0-1 c.in_ok-layout.entries c.in_ok-layout.length c.in_ok-layout.ensures.found
    c.args.pair c.requires.named)
    g.B.Geometry.POINTS g.met.B.Geometry.point_count c.count.result (c.count.ensures.value right) c.in_ok-check_length.field-0 c.in_ok-check_length.ensures.value) in
    absurd (omega (
      arith,
      c.if-bytes-place.true,
      c.entry.ensures.below right,
      size,
      ap (λ n. entry_count g.B.Geometry.shape n c.in_ok-layout.layout c.args.pair) g.met.B.Geometry.point_count,
    ))

pub returns-clause-said : goal.returns-clause-said
unfolding code_at
returns-clause-said g c = λ serves.
    let right = c.in_ok-greater.ensures.lists_fit (λ classes. serves (read_by_classes g.B.Geometry.shape c.args.bytes.now c.in_ok-layout.layout c.in_ok-layout.field-0-1 c.in_ok-layout.entries c.in_ok-layout.length
    c.in_ok-layout.ensures.found classes)) in
    let entry : c.entry.result ≡ entry_index g.B.Geometry.shape g.B.Geometry.shape.points c.in_ok-layout.layout c.args.pair c.args.position.now =
    c.entry.ensures.value right ∙ ap (λ n. entry_index g.B.Geometry.shape n c.in_ok-layout.layout c.args.pair c.args.position.now) (sym g.met.B.Geometry.point_count) in
    let place : 2 * (8 + c.entry.result) ≡ 16 + 2 * c.entry.result = omega arith in
    let code : c.code_in.result ≡ code_at c.args.bytes.now c.entry.result = c.code_in.ensures ∙ ap (λ p. from_be_bytes w16 (bytes_at c.args.bytes.now p 2)) place in
    ap (λ v. Ok v) (c.value_of_code.ensures ∙ ap value_in (code ∙ ap (code_at c.args.bytes.now) entry))
    ∙ said_by_kind g.B.Geometry.shape c.args.position.now c.args.bytes.now _
    (framed_found g.B.Geometry.shape c.args.bytes.now (c.in_ok-layout.layout, c.args.pair) c.in_ok-layout.entries c.in_ok-layout.length
    (named_heading g.B.Geometry.shape c.args.bytes.now c.in_ok-layout.layout c.in_ok-layout.field-0-1 c.in_ok-layout.entries c.in_ok-layout.length c.in_ok-layout.ensures.found
    c.args.pair c.requires.named)
    g.B.Geometry.POINTS g.met.B.Geometry.point_count c.count.result (c.count.ensures.value right) c.in_ok-check_length.field-0 c.in_ok-check_length.ensures.value)

pub returns-clause-unready : goal.returns-clause-unready
returns-clause-unready g c = λ classes.
    c.in_ok-greater.ensures.tested (laid_by_classes g.B.Geometry.shape c.args.bytes.now c.in_ok-layout.layout c.in_ok-layout.field-0-1 c.in_ok-layout.entries c.in_ok-layout.length
    c.in_ok-layout.ensures.found classes)
