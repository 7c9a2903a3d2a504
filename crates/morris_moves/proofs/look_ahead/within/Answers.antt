use Rattle.std.proofs.Common.{◌≤◌, sym, ◌∙◌, arith}
use Rattle.morris_moves.specs.Values.{IsOpen}
use borrow.Author.Count.{below_more}
use Rattle.morris_moves.specs.declared.within.Within.TheVariants.{Lost, Won, Unknown}
use Rattle.morris_moves.proofs.ValueLaws.{open_even, open_odd, answer_lost, answer_won}
use Rattle.morris_moves.proofs.SymmetryLaws.{IsImage-value, IsImage-answer}
use Rattle.morris_moves.proofs.look_ahead.within.Given as given
use Rattle.morris_moves.proofs.look_ahead.within.Goals as goal
use Rattle.morris_moves.proofs.look_ahead.within.Goals.{then-depth-eq0+else-is_lost, else-depth-eq0+else-is_won}

small : (g : given.Over) → g.B.Geometry.shape.points ≤ 24
small g = omega (arith, g.met.B.Geometry.few, g.met.B.Geometry.point_count)

pub returns-then-is_lost-clause-answer : goal.returns-then-is_lost-clause-answer
returns-then-is_lost-clause-answer g c = (
  omega arith,
  record { lost = sym c.is_lost.ensures ∙ c.if-is_lost.true; least = c.loop-depth.invariant },
)

pub returns-then-is_lost-clause-won : goal.returns-then-is_lost-clause-won
returns-then-is_lost-clause-won g c =
    answer_won g.B.Geometry.shape c.args.position.now c.args.plies (Lost c.loop-depth.depth) (returns-then-is_lost-clause-answer g c)

pub returns-then-is_won-clause-answer : goal.returns-then-is_won-clause-answer
returns-then-is_won-clause-answer g c = (
  omega arith,
  record { won = sym c.is_won.ensures ∙ c.if-is_won.true; least = c.loop-depth.invariant },
)

pub returns-then-is_won-clause-lost : goal.returns-then-is_won-clause-lost
returns-then-is_won-clause-lost g c =
    answer_lost g.B.Geometry.shape c.args.position.now c.args.plies (Won c.loop-depth.depth) (returns-then-is_won-clause-answer g c)

pub loop-depth-preserved : goal.loop-depth-preserved
loop-depth-preserved g c =
    let here : IsOpen g.B.Geometry.shape c.args.position.now c.loop-depth.depth = elim c.if-depth-eq0.branch [
      | then-depth-eq0+else-is_lost w ↦
          open_even g.B.Geometry.shape c.args.position.now c.loop-depth.depth w.if-depth-eq0.true c.loop-depth.invariant
          (sym w.is_lost.ensures ∙ w.if-is_lost.false)
      | else-depth-eq0+else-is_won w ↦
          open_odd g.B.Geometry.shape c.args.position.now c.loop-depth.depth (omega (arith, w.if-depth-eq0.false)) c.loop-depth.invariant
          (sym w.is_won.ensures ∙ w.if-is_won.false)
    ] in
    below_more (λ k. IsOpen g.B.Geometry.shape c.args.position.now k) c.loop-depth.depth c.loop-depth.invariant here

pub returns-after-depth-eq0-clause-answer : goal.returns-after-depth-eq0-clause-answer
returns-after-depth-eq0-clause-answer g c =
    let here : IsOpen g.B.Geometry.shape c.args.position.now c.loop-depth.depth = elim c.if-depth-eq0.branch [
      | then-depth-eq0+else-is_lost w ↦
          open_even g.B.Geometry.shape c.args.position.now c.loop-depth.depth w.if-depth-eq0.true c.loop-depth.invariant
          (sym w.is_lost.ensures ∙ w.if-is_lost.false)
      | else-depth-eq0+else-is_won w ↦
          open_odd g.B.Geometry.shape c.args.position.now c.loop-depth.depth (omega (arith, w.if-depth-eq0.false)) c.loop-depth.invariant
          (sym w.is_won.ensures ∙ w.if-is_won.false)
    ] in
    let each = below_more (λ k. IsOpen g.B.Geometry.shape c.args.position.now k) c.loop-depth.depth c.loop-depth.invariant here in
    λ k low. each k (omega arith)

pub returns-after-depth-eq0-clause-lost : goal.returns-after-depth-eq0-clause-lost
returns-after-depth-eq0-clause-lost g c =
    answer_lost g.B.Geometry.shape c.args.position.now c.args.plies Unknown (returns-after-depth-eq0-clause-answer g c)

pub returns-after-depth-eq0-clause-won : goal.returns-after-depth-eq0-clause-won
returns-after-depth-eq0-clause-won g c =
    answer_won g.B.Geometry.shape c.args.position.now c.args.plies Unknown (returns-after-depth-eq0-clause-answer g c)

pub returns-then-is_lost-clause-one_value : goal.returns-then-is_lost-clause-one_value
returns-then-is_lost-clause-one_value g c =
    λ s. IsImage-value g.B.Geometry.shape (small g) s c.args.position.now

pub returns-then-is_lost-clause-images : goal.returns-then-is_lost-clause-images
returns-then-is_lost-clause-images g c =
    λ s h i. IsImage-answer g.B.Geometry.shape (small g) s c.args.position.now h i c.args.plies (Lost c.loop-depth.depth)
    (returns-then-is_lost-clause-answer g c)

pub returns-then-is_won-clause-one_value : goal.returns-then-is_won-clause-one_value
returns-then-is_won-clause-one_value g c =
    λ s. IsImage-value g.B.Geometry.shape (small g) s c.args.position.now

pub returns-then-is_won-clause-images : goal.returns-then-is_won-clause-images
returns-then-is_won-clause-images g c =
    λ s h i. IsImage-answer g.B.Geometry.shape (small g) s c.args.position.now h i c.args.plies (Won c.loop-depth.depth)
    (returns-then-is_won-clause-answer g c)

pub returns-after-depth-eq0-clause-one_value : goal.returns-after-depth-eq0-clause-one_value
returns-after-depth-eq0-clause-one_value g c =
    λ s. IsImage-value g.B.Geometry.shape (small g) s c.args.position.now

pub returns-after-depth-eq0-clause-images : goal.returns-after-depth-eq0-clause-images
returns-after-depth-eq0-clause-images g c =
    λ s h i. IsImage-answer g.B.Geometry.shape (small g) s c.args.position.now h i c.args.plies Unknown
    (returns-after-depth-eq0-clause-answer g c)
