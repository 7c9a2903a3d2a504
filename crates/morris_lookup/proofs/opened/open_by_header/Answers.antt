use Rattle.std.proofs.Common.{◌≤◌, length, ap, sym, subst, arith}
use Rattle.std.proofs.lemmas.Bool.{false≢true}
use Rattle.std.proofs.lemmas.Result.{err_from_is_err_and}
use Rattle.morris_index.specs.Pairs.{IsPair}
use Rattle.morris_lookup.specs.Numberings.{AreListsFor}
use Rattle.morris_lookup.proofs.EntryLaws.{serve_few}
use Rattle.morris_lookup.proofs.OpeningLaws.{frame_refused, frame_roomless, frame_not_borne, frame_found, held_known}
use Rattle.morris_lookup.proofs.opened.open_by_header.Goals as goal

pub returns-in_err-layout-clause-refused : goal.returns-in_err-layout-clause-refused
returns-in_err-layout-clause-refused g c =
    let failed = err_from_is_err_and c.from_residual.result c.from_residual.ensures.1 in
    rw (failed.1, failed.2) (frame_refused g.B.Geometry.shape (g.S.Storage.contents c.args.storage) c.in_err-layout.field-0.0 c.in_err-layout.ensures.refused)

pub returns-in_err-greater-clause-refused : goal.returns-in_err-greater-clause-refused
returns-in_err-greater-clause-refused g c =
    let failed = err_from_is_err_and c.from_residual-in_err-greater.result c.from_residual-in_err-greater.ensures.1 in
    rw (failed.1, failed.2)
    (frame_roomless g.B.Geometry.shape c.in_ok-layout.entries c.in_ok-layout.length c.in_ok-layout.layout c.in_ok-layout.pair (g.S.Storage.contents c.args.storage)
    (held_known (g.S.Storage.contents c.args.storage) (g.S.Storage.held c.args.storage) _ (g.met.S.Storage.contents_held c.args.storage) c.in_ok-layout.ensures.found)
    (λ full. false≢true (c.in_err-greater.ensures.full full)))

pub count-requires : goal.count-requires
count-requires g c =
    let low : g.B.Geometry.shape.points ≤ 24 = omega (arith, g.met.B.Geometry.few, g.met.B.Geometry.point_count) in
    let few = serve_few g.B.Geometry.shape low c.in_ok-layout.layout c.in_ok-layout.pair _ _ _ _ c.in_ok-greater.ensures.lists_fit in
    (omega (arith, ap length c.as_slice.ensures.value, few.0), omega (arith, ap length c.as_slice-2.ensures.value, few.1))

pub returns-in_err-check_length-clause-refused : goal.returns-in_err-check_length-clause-refused
returns-in_err-check_length-clause-refused g c =
    let lists_fit : AreListsFor g.B.Geometry.shape c.in_ok-layout.layout c.in_ok-layout.pair c.as_slice.result.now c.as_slice-2.result.now c.as_slice-3.result.now c.as_slice-4.result.now =
    rw (c.as_slice.ensures.value, c.as_slice-2.ensures.value, c.as_slice-3.ensures.value, c.as_slice-4.ensures.value) c.in_ok-greater.ensures.lists_fit in
    let failed = err_from_is_err_and c.from_residual-in_err-check_length.result c.from_residual-in_err-check_length.ensures.1 in
    rw (failed.1, failed.2)
    (frame_not_borne g.B.Geometry.shape c.in_ok-layout.entries c.in_ok-layout.length (c.in_ok-layout.layout, c.in_ok-layout.pair) g.B.Geometry.POINTS
    g.met.B.Geometry.point_count c.count.result (c.count.ensures.value lists_fit) (g.S.Storage.contents c.args.storage)
    (held_known (g.S.Storage.contents c.args.storage) (g.S.Storage.held c.args.storage) _ (g.met.S.Storage.contents_held c.args.storage) c.in_ok-layout.ensures.found)
    c.in_err-check_length.field-0.0 c.in_err-check_length.ensures.value c.in_err-check_length.ensures.refused)

pub invariant_of-result : goal.invariant_of-result
invariant_of-result g c =
    let lists_fit : AreListsFor g.B.Geometry.shape c.in_ok-layout.layout c.in_ok-layout.pair c.as_slice.result.now c.as_slice-2.result.now c.as_slice-3.result.now c.as_slice-4.result.now =
    rw (c.as_slice.ensures.value, c.as_slice-2.ensures.value, c.as_slice-3.ensures.value, c.as_slice-4.ensures.value) c.in_ok-greater.ensures.lists_fit in (
      record {
        lawful = subst (λ n. IsPair n c.in_ok-layout.pair) (sym g.met.B.Geometry.point_count) c.greater.ensures.lawful;
        checked = frame_found g.B.Geometry.shape c.in_ok-layout.entries c.in_ok-layout.length (c.in_ok-layout.layout, c.in_ok-layout.pair) g.B.Geometry.POINTS
            g.met.B.Geometry.point_count c.count.result (c.count.ensures.value lists_fit) (g.S.Storage.held c.args.storage) c.in_ok-layout.ensures.found c.in_ok-check_length.field-0
            c.in_ok-check_length.ensures.value;
        unchanged = g.met.S.Storage.contents_held c.args.storage;
      },
      c.in_ok-greater.ensures.lists_fit,
    )

pub returns-clause-right : goal.returns-clause-right
returns-clause-right g c = (invariant_of-result g c).0
