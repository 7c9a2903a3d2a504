-- Each image is compared with the least one before it.
use Rattle.std.proofs.Common.{◌≡◌, ◌<◌, ◌≤◌, ◌^◌, ◌∙◌, sym, ap, subst, arith}
use Rattle.morris_board.specs.Symmetries.{image_of}
use Rattle.morris_index.specs.Classes.{representative_of}
use Rattle.morris_index.proofs.ClassLaws.{IsFirst, first_one, first_same, first_new, first_is, image_none}
use Rattle.morris_lookup.proofs.classes.least_image.Goals as goal
use Rattle.morris_lookup.proofs.classes.least_image.Goals.{then-mask, else-mask}

pub loop-other-init : goal.loop-other-init
loop-other-init g c =
    let few : g.B.Geometry.shape.points ≤ 24 = omega (arith, g.met.B.Geometry.few, g.met.B.Geometry.point_count) in
    record {
      first = first_one g.B.Geometry.shape c.args.set;
      is = sym (image_none g.B.Geometry.shape few g.met.B.Geometry.has_symmetries c.args.set
          (subst (λ n. c.args.set < 2 ^ n) (sym g.met.B.Geometry.point_count) c.requires));
    }

pub loop-other-preserved : goal.loop-other-preserved
loop-other-preserved g c =
    elim c.if-mask.branch [
      | then-mask w ↦
          let less : image_of (g.B.Geometry.shape.image c.loop-other.other) c.args.set < image_of (g.B.Geometry.shape.image c.loop-other.symmetry) c.args.set =
          omega (arith, w.if-mask.true, c.mask.ensures, c.mask-in-loop-other.ensures, c.image_of-image.ensures, c.loop-other.invariant.is) in
          rw (w.least-is, w.symmetry-is) (record {
            first = first_new g.B.Geometry.shape c.args.set c.loop-other.other c.loop-other.symmetry c.loop-other.invariant.first less;
            is = c.image_of-image.ensures;
          })
      | else-mask w ↦
          let le : image_of (g.B.Geometry.shape.image c.loop-other.symmetry) c.args.set ≤ image_of (g.B.Geometry.shape.image c.loop-other.other) c.args.set =
          omega (arith, w.if-mask.false, c.mask.ensures, c.mask-in-loop-other.ensures, c.image_of-image.ensures, c.loop-other.invariant.is) in
          rw (w.least-is, w.symmetry-is) (record {
            first = first_same g.B.Geometry.shape c.args.set c.loop-other.other c.loop-other.symmetry c.loop-other.invariant.first le;
            is = c.loop-other.invariant.is;
          })
    ]

abbrev last : goal.returns-clause-symmetry
last g c =
    let board = g.B.Geometry.shape in
    let end : c.loop-other.other ≡ board.symmetries =
    omega (arith, g.met.B.Geometry.has_symmetries.some, g.met.B.Geometry.symmetry_count, c.SYMMETRIES-other-end.ensures, c.loop-other-test.false, c.loop-other.auto.other-end) in
    sym (first_is board c.args.set c.loop-other.symmetry (subst (λ n. IsFirst board n c.args.set c.loop-other.symmetry) end c.loop-other.invariant.first))

pub returns-clause-symmetry : goal.returns-clause-symmetry
returns-clause-symmetry g c = last g c

pub returns-clause-image : goal.returns-clause-image
unfolding representative_of
returns-clause-image g c = c.loop-other.invariant.is ∙ ap (λ s. image_of (g.B.Geometry.shape.image s) c.args.set) (last g c)

pub returns-clause-one : goal.returns-clause-one
returns-clause-one g c =
    let end : c.loop-other.other ≤ g.B.Geometry.SYMMETRIES =
    omega (arith, g.met.B.Geometry.has_symmetries.some, g.met.B.Geometry.symmetry_count, c.SYMMETRIES-other-end.ensures, c.loop-other-test.false, c.loop-other.auto.other-end) in
    omega (arith, c.loop-other.invariant.first.within, end)
