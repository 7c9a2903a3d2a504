use Rattle.std.proofs.lemmas.Bool.{lt-ltb, le-ltb, eq-eqb, ne_eqb}
use Rattle.morris_moves.proofs.MaskLaws.{steps-slide, steps-jump, steps-none}
use Rattle.morris_moves.proofs.rules.steps.Goals as goal

pub returns-then-stones-gt3 : goal.returns-then-stones-gt3
returns-then-stones-gt3 g c = λ p. rw (← g.met.B.Geometry.point_count)
    (steps-slide g.B.Geometry.shape c.args.stones c.args.point c.neighbours.result (lt-ltb 3 _ c.if-stones-gt3.true) c.neighbours.ensures p)

pub returns-then-stones-eq3 : goal.returns-then-stones-eq3
returns-then-stones-eq3 g c = λ p. rw (← g.met.B.Geometry.point_count)
    (steps-jump g.B.Geometry.shape c.args.stones c.args.point c.below.result (le-ltb 3 _ c.if-stones-gt3.false) (eq-eqb _ 3 c.if-stones-eq3.true)
    (λ q. rw (g.met.B.Geometry.point_count, ← c.POINTS.ensures) (c.below.ensures q)) p)

pub returns-else-stones-eq3 : goal.returns-else-stones-eq3
returns-else-stones-eq3 g c = λ p. rw (← g.met.B.Geometry.point_count)
    (steps-none g.B.Geometry.shape c.args.stones c.args.point (le-ltb 3 _ c.if-stones-gt3.false) (ne_eqb _ 3 c.if-stones-eq3.false) p)
