use Rattle.std.proofs.Common.{◌≡◌, ◌+◌, ◌∙◌, true, sym, ap, subst, arith}
use Rattle.morris_board.specs.Positions.{Sides}
use Rattle.morris_index.specs.Pairs.{is_of}
use Rattle.morris_index.specs.ClassPairs.{canonical_form, class_index_of}
use Rattle.morris_index.proofs.ClassPairLaws.{canonical_own}
use Rattle.morris_index.proofs.class_pair.ClassPair.position.Goals as goal

pub returns-clause-index : goal.returns-clause-index
returns-clause-index g c =
    let at : c.row_from.result.first + 0 ≡ c.args.index = omega (arith, c.row_from.ensures.first) in
    ap (λ p. class_index_of g.B.Geometry.shape g.B.Geometry.POINTS p c.position.result) (sym c.row_from.ensures.pair) ∙ c.position.ensures.index ∙ at

pub returns-clause-canonical_form : goal.returns-clause-canonical_form
returns-clause-canonical_form g c = λ s h of e.
    let at : c.args.index ≡ c.row_from.result.first + 0 = omega (arith, c.row_from.ensures.first) in
    c.position.ensures.canonical_form s h (subst (λ p. is_of p s ≡ true) (sym c.row_from.ensures.pair) of)
    (ap (λ p. class_index_of g.B.Geometry.shape g.B.Geometry.POINTS p s) c.row_from.ensures.pair ∙ e ∙ at)

-- the position of an entry is its own canonical form, so it has a representative for its own set
pub returns-clause-own : goal.returns-clause-own
returns-clause-own g c =
    let p : Sides = c.position.result in
    let itself : p ≡ canonical_form g.B.Geometry.shape p = c.position.ensures.canonical_form p c.position.ensures.lawful c.position.ensures.counts c.position.ensures.index in
    sym (ap (λ (s : Sides). s.own) itself
    ∙ canonical_own g.B.Geometry.shape g.B.Geometry.POINTS g.met.B.Geometry.few g.met.B.Geometry.point_count g.met.B.Geometry.has_symmetries p c.position.ensures.lawful)
