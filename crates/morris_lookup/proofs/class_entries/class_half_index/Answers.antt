use Rattle.std.proofs.Common.{◌≡◌, ◌+◌, ◌*◌, ◌≤◌, ◌<◌, ◌^◌, map, refl, ◌∙◌, sym, ap, ap₂, subst, arith}
use Rattle.morris_board.specs.Sets.{count_of, members}
use Rattle.morris_board.specs.Symmetries.{image_sides}
use Rattle.morris_index.specs.Classes.{class_of, symmetry_of}
use Rattle.morris_index.specs.Numbering.{rank_of, number_outside}
use Rattle.morris_index.specs.ClassPairs.{canonical_form, class_half_index}
use Rattle.morris_index.proofs.IndexLaws.{within_24}
use Rattle.morris_lookup.specs.Prepared.{AreClassWords}
use Rattle.morris_lookup.specs.Representatives.{representatives_of}
use Rattle.morris_lookup.proofs.EntryLaws.{stones_fit}
use Rattle.morris_lookup.proofs.class_entries.class_half_index.Goals as goal

pub overflow_sub-POINTS : goal.overflow_sub-POINTS
overflow_sub-POINTS g c =
    omega (
      arith,
      stones_fit g.B.Geometry.shape g.B.Geometry.POINTS (omega (arith, g.met.B.Geometry.few)) g.met.B.Geometry.point_count c.args.position.now c.own.ensures.lawful,
      c.counts-own.ensures.own,
      c.POINTS.ensures,
    )

pub rank_outside-requires-clause-board : goal.rank_outside-requires-clause-board
rank_outside-requires-clause-board g c =
    let few : g.B.Geometry.shape.points ≤ 24 = omega (arith, g.met.B.Geometry.few, g.met.B.Geometry.point_count) in
    subst (λ x. x < 2 ^ 24) (sym c.other.ensures.points) (within_24 c.image-canonical_form.result.other g.B.Geometry.shape.points c.image-canonical_form.ensures.lawful.stones.other_within few)

pub returns-clause-value : goal.returns-clause-value
unfolding canonical_form class_half_index
returns-clause-value g c = λ listed class_words.
    let board = g.B.Geometry.shape in
    let there : AreClassWords board (count_of c.own.result) c.args.class_words.now = subst (λ o. AreClassWords board (count_of o) c.args.class_words.now) (sym c.own.ensures.points) class_words in
    let class = c.class_by-class.ensures.class (listed ∙ ap (λ o. representatives_of board (count_of o)) (sym c.own.ensures.points)) there ∙ ap (class_of board) c.own.ensures.points in
    let symmetry = c.class_by-class.ensures.symmetry there ∙ ap (symmetry_of board) c.own.ensures.points in
    let canonical_is : c.image-canonical_form.result ≡ canonical_form board c.args.position.now = c.image-canonical_form.ensures.image ∙ ap (λ s. image_sides (board.image s) c.args.position.now) symmetry in
    ap₂ (λ a b. a + b)
    (ap₂ (λ a b. a * b) class (rw (c.binomial-choices.ensures.value, c.POINTS.ensures, c.counts-own.ensures.own, c.counts-own.ensures.other) refl))
    (c.rank_outside.ensures.value
    ∙ ap₂ (λ own other. rank_of (map (number_outside own) (members other))) c.own-2.ensures.points c.other.ensures.points
    ∙ ap (λ s. rank_of (map (number_outside s.own) (members s.other))) canonical_is)
