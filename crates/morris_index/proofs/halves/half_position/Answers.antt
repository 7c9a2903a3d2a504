use Rattle.std.proofs.Common.{◌≡◌, arith, rules}
use Rattle.morris_board.specs.Positions.{sides}
use Rattle.morris_index.proofs.IndexLaws.{choices_some, own_part-lt, other_part-lt, half_index-ranked}
use Rattle.morris_index.proofs.halves.half_position.Goals as goal

pub nonzero_div-index : goal.nonzero_div-index
nonzero_div-index g c = rw (c.binomial-choices.ensures.value, c.POINTS.ensures) (choices_some g.B.Geometry.POINTS c.args.own c.args.other c.args.index c.requires.small)

pub unrank-own_points-requires-clause-small : goal.unrank-own_points-requires-clause-small
unrank-own_points-requires-clause-small g c =
    rw (c.binomial-choices.ensures.value, c.POINTS.ensures, c.POINTS-2.ensures) (own_part-lt g.B.Geometry.POINTS c.args.own c.args.other c.args.index c.requires.small)

pub nonzero_rem-index : goal.nonzero_rem-index
nonzero_rem-index g c = rw (c.binomial-choices.ensures.value, c.POINTS.ensures) (choices_some g.B.Geometry.POINTS c.args.own c.args.other c.args.index c.requires.small)

pub unrank-other_points-requires-clause-small : goal.unrank-other_points-requires-clause-small
unrank-other_points-requires-clause-small g c =
    rw (c.binomial-choices.ensures.value, c.POINTS.ensures, c.POINTS-3.ensures)
    (other_part-lt g.B.Geometry.POINTS c.args.own c.args.other c.args.index c.requires.small c.unrank-own_points.result (omega (arith, g.met.B.Geometry.few))
    (rw (c.binomial-choices.ensures.value, c.POINTS.ensures, c.POINTS-2.ensures) at c.unrank-own_points.ensures))

pub returns-clause-index : goal.returns-clause-index
returns-clause-index g c =
    let made : c.in-Ok.position ≡ sides c.unrank-own_points.result c.unrank-other_points.result = search rules in
    rw made
    (half_index-ranked g.B.Geometry.POINTS c.args.own c.args.other c.args.index c.requires.small c.unrank-own_points.result (omega (arith, g.met.B.Geometry.few))
    (rw (c.binomial-choices.ensures.value, c.POINTS.ensures, c.POINTS-2.ensures) at c.unrank-own_points.ensures)
    c.unrank-other_points.result
    (rw (c.binomial-choices.ensures.value, c.POINTS.ensures, c.POINTS-3.ensures) at c.unrank-other_points.ensures))
