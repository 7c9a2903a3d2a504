use Rattle.std.proofs.Common.{◌≡◌, ◌∷◌, [], ◌++◌, map, sym, ap, ap₂, subst, ◌∙◌, arith}
use Rattle.morris_index.specs.ClassPairs.{class_index_of}
use Rattle.morris_index.specs.Moves.{InPair}
use Rattle.std.specs.Prelude.{slice_index}
use Rattle.std.proofs.lemmas.List.{take_all, map_more}
use Rattle.morris_pairs.specs.Entries.{entry_index}
use Rattle.morris_pairs.specs.OpponentGroups.{code_stated, codes_stated}
use Rattle.morris_pairs.proofs.by_result.list_codes.Goals as goal

pub loop-member-preserved : goal.loop-member-preserved
loop-member-preserved g c =
    let t = c.args.raw.now in
    let item = c.member-item.result in
    let stated = code_stated g.B.Geometry.shape t in
    let of : item.pair ≡ t.pair = ap (λ (q : InPair). q.pair) c.member-item.is ∙ c.requires.of c.loop-member.member-index item c.loop-member-test.true in
    let entry : c.entry.result ≡ entry_index g.B.Geometry.shape g.B.Geometry.shape.points t.layout t.pair item.position =
    rw c.requires.layout
    (subst (λ p. c.entry.result ≡ class_index_of g.B.Geometry.shape g.B.Geometry.shape.points p item.position) of
    (subst (λ n. c.entry.result ≡ class_index_of g.B.Geometry.shape n item.pair item.position) (sym g.met.B.Geometry.point_count) c.entry.ensures.value)) in
    let code : c.code.result ≡ stated item = c.code.ensures ∙ ap (slice_index t.codes) entry in
    c.in_ok-push.ensures.items
    ∙ ap₂ (λ xs x. xs ++ x ∷ []) c.loop-member.invariant (code ∙ ap stated c.member-item.is)
    ∙ sym (map_more stated c.args.group.now c.loop-member.member-index item c.loop-member-test.true)

pub returns : goal.returns
unfolding codes_stated
returns g c =
    c.loop-member.invariant
    ∙ ap (map (code_stated g.B.Geometry.shape c.args.raw.now)) (take_all c.loop-member.member-index c.args.group.now (omega (arith, c.loop-member-test.false)))
