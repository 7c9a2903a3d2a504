use Rattle.std.proofs.Common.{◌≡◌, ◌≤◌, Ok, sym, ap, subst, ◌∙◌, arith}
use Rattle.std.specs.Prelude.{IfSome}
use Rattle.std.proofs.lemmas.Result.{err_from_is_err_and}
use Rattle.morris_index.specs.Pairs.{Counts}
use Rattle.morris_pairs.specs.declared.layout.Layout.{Layout}
use Rattle.morris_lookup.specs.Opening.{check_file}
use Rattle.morris_lookup.proofs.OpeningLaws.{alike, apart, opens_refused, kind_found, known_framed, other_pair}
use Rattle.morris_lookup.proofs.opened.Opened.open.Goals as goal

pub returns-in_err-file-clause-complete : goal.returns-in_err-file-clause-complete
returns-in_err-file-clause-complete g c = λ t raw pair known.
    let few : g.B.Geometry.shape.points ≤ 24 = omega (arith, g.met.B.Geometry.point_count, g.met.B.Geometry.few) in
    let failed = err_from_is_err_and c.from_residual.result c.from_residual.ensures.1 in
    rw (failed.1, failed.2)
    (opens_refused g.B.Geometry.shape few g.met.B.Geometry.has_symmetries t raw (g.S.Storage.contents c.args.storage) known c.in_err-file.field-0.0
    c.in_err-file.ensures.refused)

pub returns-then-ne-clause-refused : goal.returns-then-ne-clause-refused
returns-then-ne-clause-refused g c =
    other_pair g.B.Geometry.shape c.args.pair (g.S.Storage.contents c.args.storage) (c.in_ok-file.file.layout, c.in_ok-file.file.pair)
    (subst (λ o. IfSome o (λ bytes. check_file g.B.Geometry.shape bytes ≡ Ok (c.in_ok-file.file.layout, c.in_ok-file.file.pair))) c.in_ok-file.ensures.bytes (known_framed _ _ c.in_ok-file.ensures.right))
    (λ same. apart _ _ (sym c.ne.ensures ∙ c.if-ne.true) (c.pair.ensures.value ∙ same))

pub returns-then-ne-clause-complete : goal.returns-then-ne-clause-complete
returns-then-ne-clause-complete g c = λ t raw pair known.
    let few : g.B.Geometry.shape.points ≤ 24 = omega (arith, g.met.B.Geometry.point_count, g.met.B.Geometry.few) in
    let kind = kind_found g.B.Geometry.shape few g.met.B.Geometry.has_symmetries t raw (g.S.Storage.contents c.args.storage) known
    (c.in_ok-file.file.layout, c.in_ok-file.file.pair)
    (subst (λ o. IfSome o (λ bytes. check_file g.B.Geometry.shape bytes ≡ Ok (c.in_ok-file.file.layout, c.in_ok-file.file.pair))) c.in_ok-file.ensures.bytes (known_framed _ _ c.in_ok-file.ensures.right)) in
    let same : c.pair.result ≡ c.args.pair = c.pair.ensures.value ∙ ap (λ (k : Layout × Counts). k.1) kind ∙ pair in
    absurd (apart _ _ (sym c.ne.ensures ∙ c.if-ne.true) same)

pub returns-clause-pair : goal.returns-clause-pair
returns-clause-pair g c = sym c.pair.ensures.value ∙ alike _ _ (sym c.ne.ensures ∙ c.if-ne.false)

pub returns-clause-complete : goal.returns-clause-complete
returns-clause-complete g c = λ t raw pair known.
    let few : g.B.Geometry.shape.points ≤ 24 = omega (arith, g.met.B.Geometry.point_count, g.met.B.Geometry.few) in
    ap (λ (k : Layout × Counts). k.0)
    (kind_found g.B.Geometry.shape few g.met.B.Geometry.has_symmetries t raw (g.S.Storage.contents c.args.storage) known
    (c.in_ok-file.file.layout, c.in_ok-file.file.pair)
    (subst (λ o. IfSome o (λ bytes. check_file g.B.Geometry.shape bytes ≡ Ok (c.in_ok-file.file.layout, c.in_ok-file.file.pair))) c.in_ok-file.ensures.bytes (known_framed _ _ c.in_ok-file.ensures.right)))
