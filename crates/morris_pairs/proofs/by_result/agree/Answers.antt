-- By its results a position has the code of that of which it is the image.
use Rattle.std.proofs.Common.{◌≡◌, eqb, true, refl, sym, ap, subst, ◌∙◌}
use Rattle.std.proofs.lemmas.Bool.{eq-eqb, eqb-true}
use Rattle.morris_board.specs.Positions.{Sides, IsPosition}
use Rattle.morris_board.specs.Symmetries.{image_sides}
use Rattle.morris_index.specs.ByOpponent.{IsInTransversal}
use Rattle.morris_index.specs.Pairs.{IsPair, is_of}
use Rattle.morris_pairs.specs.Agreement.{code_from, result_codes}
use Rattle.morris_pairs.proofs.AgreementLaws.{agrees_at}
use Rattle.morris_pairs.proofs.ResultLaws.{same_code_after}
use Rattle.morris_pairs.proofs.by_result.agree.Goals as goal

pub returns-clause-agrees : goal.returns-clause-agrees
returns-clause-agrees g c = λ yes.
    let board = g.B.Geometry.shape in
    let t = c.args.raw.now in
    let q : Sides = c.args.member.now.position in
    let from : Sides = c.position-position.result in
    let canonical_form = c.from-after.ensures.canonical_form in
    let back : IsInTransversal board from canonical_form.0 = rw c.position-position.ensures canonical_form.1 in
    let image : q ≡ image_sides (board.image canonical_form.0) from = rw c.position-position.ensures canonical_form.2 in
    let of : is_of t.pair from ≡ true = rw (c.position-position.ensures, ← c.requires.of) c.from-after.ensures.counts in
    let lawful : IsPosition board from = rw c.position-position.ensures c.from-after.ensures.lawful in
    let same : code_from (result_codes board t q) ≡ code_from (result_codes board t from) =
    ap (λ x. code_from (result_codes board t x)) image
    ∙ same_code_after board g.met.B.Geometry.is_lawful g.met.B.Geometry.has_symmetries t c.requires.layout from lawful of canonical_form.0 back in
    let right : eqb c.args.code (code_from (result_codes board t q)) ≡ true =
    eq-eqb c.args.code (code_from (result_codes board t q)) (eqb-true c.args.code (code_from (result_codes board t from)) (sym c.is_code_after.ensures ∙ yes) ∙ sym same) in
    (agrees_at board g.met.B.Geometry.is_lawful g.met.B.Geometry.has_symmetries board.points refl t
    (subst (λ n. IsPair n t.pair) (sym g.met.B.Geometry.point_count) c.pair.ensures.lawful)
    q c.from-after.ensures.member.lawful (subst (λ d. is_of d q ≡ true) c.requires.of c.from-after.ensures.member.counts)
    (rw c.requires.layout (eq-eqb _ _ c.from-after.ensures.member.own)) _ refl c.args.code (code_from (result_codes board t q))
    (eqb c.args.code (code_from (result_codes board t q))) refl c.requires.code refl).0 right
