-- A symmetry is in the transversal where its inverse is the canonicalizing symmetry of the image.
use Rattle.std.proofs.Common.{ℕ, ◌≡◌, ◌<◌, ◌^◌, eqb, sym, subst, ap, ◌∙◌, arith}
use Rattle.std.proofs.lemmas.Bool.{eq-eqb, ne_eqb}
use Rattle.morris_board.specs.Symmetries.{image_of, inverse_of}
use Rattle.morris_index.specs.Classes.{symmetry_of}
use Rattle.morris_index.proofs.ClassLaws.{image_within, image_count}
use Rattle.morris_index.proofs.CarriedLaws.{none_pass, one_passes, one_fails}
use Rattle.morris_index.proofs.transversals.find_transversal.Goals as goal
use Rattle.morris_index.proofs.transversals.find_transversal.Goals.{then-class_of-inverse, else-class_of-inverse}

pub loop-symmetry-init : goal.loop-symmetry-init
loop-symmetry-init g c = none_pass (λ s. eqb (symmetry_of g.B.Geometry.shape (image_of (g.B.Geometry.shape.image s) c.args.own)) (inverse_of s))

pub class_of-requires-clause-within : goal.class_of-requires-clause-within
class_of-requires-clause-within g c =
    let low : c.loop-symmetry.symmetry < g.B.Geometry.shape.symmetries = omega (arith, c.loop-symmetry-test.true, c.SYMMETRIES-symmetry-end.ensures, g.met.B.Geometry.symmetry_count) in
    rw c.image_of-image.ensures
    (subst (λ n. image_of (g.B.Geometry.shape.image c.loop-symmetry.symmetry) c.args.own < 2 ^ n) g.met.B.Geometry.point_count
    (image_within g.B.Geometry.shape (omega (arith, g.met.B.Geometry.few, g.met.B.Geometry.point_count)) g.met.B.Geometry.has_symmetries c.args.own
    (subst (λ n. c.args.own < 2 ^ n) (sym g.met.B.Geometry.point_count) c.requires.within) c.loop-symmetry.symmetry low))

pub class_of-requires-clause-count : goal.class_of-requires-clause-count
class_of-requires-clause-count g c =
    let low : c.loop-symmetry.symmetry < g.B.Geometry.shape.symmetries = omega (arith, c.loop-symmetry-test.true, c.SYMMETRIES-symmetry-end.ensures, g.met.B.Geometry.symmetry_count) in
    rw (
      c.image_of-image.ensures,
      image_count g.B.Geometry.shape (omega (arith, g.met.B.Geometry.few, g.met.B.Geometry.point_count)) g.met.B.Geometry.has_symmetries c.args.own
          (subst (λ n. c.args.own < 2 ^ n) (sym g.met.B.Geometry.point_count) c.requires.within) c.loop-symmetry.symmetry low,
    ) c.requires.count

pub loop-symmetry-preserved : goal.loop-symmetry-preserved
loop-symmetry-preserved g c =
    let set_classes : c.class_of.result.1 ≡ symmetry_of g.B.Geometry.shape (image_of (g.B.Geometry.shape.image c.loop-symmetry.symmetry) c.args.own) =
    c.class_of.ensures.symmetry ∙ ap (symmetry_of g.B.Geometry.shape) c.image_of-image.ensures in
    let test = λ (s : ℕ). eqb (symmetry_of g.B.Geometry.shape (image_of (g.B.Geometry.shape.image s) c.args.own)) (inverse_of s) in
    elim c.if-class_of-inverse.branch [
      | then-class_of-inverse w ↦
          rw (w.symmetries-is, w.with-symmetries.ensures)
          (one_passes test c.loop-symmetry.symmetry c.loop-symmetry.symmetries c.loop-symmetry.invariant
          (eq-eqb _ _ (sym set_classes ∙ w.if-class_of-inverse.true ∙ c.inverse.ensures)))
      | else-class_of-inverse w ↦
          rw w.symmetries-is
          (one_fails test c.loop-symmetry.symmetry c.loop-symmetry.symmetries c.loop-symmetry.invariant
          (ne_eqb _ _ (λ e. w.if-class_of-inverse.false (set_classes ∙ e ∙ sym c.inverse.ensures))))
    ]

pub returns : goal.returns
returns g c =
    let end : c.loop-symmetry.symmetry ≡ g.B.Geometry.shape.symmetries =
    omega (arith, c.loop-symmetry-test.false, c.loop-symmetry.auto.symmetry-end, c.SYMMETRIES-symmetry-end.ensures, g.met.B.Geometry.symmetry_count) in
    rw end at c.loop-symmetry.invariant
