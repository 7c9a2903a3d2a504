use Rattle.std.proofs.Common.{◌&&◌, ap, ◌∙◌, arith}
use Rattle.std.proofs.lemmas.Bool.{lt-ltb, le-ltb, eq-eqb, ne_eqb}
use Rattle.morris_board.specs.Sets.{has, count_of}
use Rattle.morris_pairs.proofs.ComerLaws.{comers-slide, comers-jump, comers-none}
use Rattle.morris_pairs.proofs.rows.comers.Goals as goal

pub returns-then-stones-gt3 : goal.returns-then-stones-gt3
returns-then-stones-gt3 g c = λ u.
    c.intersection.ensures u
    ∙ (ap (λ s. has c.args.own u && has s u) c.neighbours.ensures
    ∙ comers-slide g.B.Geometry.shape c.args.own c.args.to g.B.Geometry.POINTS g.met.B.Geometry.point_count c.requires.within
    (lt-ltb 3 (count_of c.args.own) (omega (arith, c.count-stones.ensures.value, c.if-stones-gt3.true))) u)

pub returns-then-stones-eq3 : goal.returns-then-stones-eq3
returns-then-stones-eq3 g c =
    comers-jump g.B.Geometry.shape c.args.own c.args.to
    (le-ltb 3 (count_of c.args.own) (omega (arith, c.count-stones.ensures.value, c.if-stones-gt3.false)))
    (eq-eqb (count_of c.args.own) 3 (omega (arith, c.count-stones.ensures.value, c.if-stones-eq3.true)))

pub returns-else-stones-eq3 : goal.returns-else-stones-eq3
returns-else-stones-eq3 g c =
    comers-none g.B.Geometry.shape c.args.own c.args.to
    (le-ltb 3 (count_of c.args.own) (omega (arith, c.count-stones.ensures.value, c.if-stones-gt3.false)))
    (ne_eqb (count_of c.args.own) 3 (λ e. omega (arith, e, c.count-stones.ensures.value, c.if-stones-eq3.false)))
