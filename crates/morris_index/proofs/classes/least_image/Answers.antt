-- Each image is compared with the least one before it.
use Rattle.std.proofs.Common.{◌≡◌, ◌<◌, ◌≤◌, ◌^◌, ◌∙◌, sym, ap, subst, arith}
use Rattle.morris_board.specs.Symmetries.{image_of}
use Rattle.morris_index.specs.Classes.{representative_of}
use Rattle.morris_index.proofs.ClassLaws.{IsLeastSoFar, first_one, first_same, first_new, first_is, same_one, same_new, same_more, same_no, canonicalizing_set, image_none}
use Rattle.morris_index.proofs.classes.least_image.Goals as goal
use Rattle.morris_index.proofs.classes.least_image.Goals.{then-mask, else-mask+then-mask-2, else-mask+else-mask-2}

pub loop-other-init : goal.loop-other-init
loop-other-init g c =
    let few : g.B.Geometry.shape.points ≤ 24 = omega (arith, g.met.B.Geometry.few, g.met.B.Geometry.point_count) in
    record {
      symmetry = 0;
      first = first_one g.B.Geometry.shape c.args.set;
      same = rw c.with-canonicalizing.ensures (same_one g.B.Geometry.shape c.args.set);
      is = sym (image_none g.B.Geometry.shape few g.met.B.Geometry.has_symmetries c.args.set
          (subst (λ n. c.args.set < 2 ^ n) (sym g.met.B.Geometry.point_count) c.requires));
    }

pub loop-other-preserved : goal.loop-other-preserved
loop-other-preserved g c =
    let s = c.loop-other.invariant.symmetry in
    elim c.if-mask.branch [
      | then-mask w ↦
          let less : image_of (g.B.Geometry.shape.image c.loop-other.other) c.args.set < image_of (g.B.Geometry.shape.image s) c.args.set =
          omega (arith, w.if-mask.true, c.mask.ensures, c.mask-in-loop-other.ensures, c.image_of-image.ensures, c.loop-other.invariant.is) in
          rw (w.least-is, w.canonicalizing-is, w.with-canonicalizing-then-mask.ensures) (record {
            symmetry = c.loop-other.other;
            first = first_new g.B.Geometry.shape c.args.set c.loop-other.other s c.loop-other.invariant.first less;
            same = same_new g.B.Geometry.shape c.args.set c.loop-other.other s c.loop-other.invariant.first less;
            is = c.image_of-image.ensures;
          })
      | else-mask+then-mask-2 w ↦
          let same : image_of (g.B.Geometry.shape.image c.loop-other.other) c.args.set ≡ image_of (g.B.Geometry.shape.image s) c.args.set =
          omega (arith, w.if-mask-2.true, w.mask-else-mask.ensures, w.mask-else-mask-2.ensures, c.image_of-image.ensures, c.loop-other.invariant.is) in
          rw (w.least-is, w.canonicalizing-is, w.with-canonicalizing-then-mask-2.ensures) (record {
            symmetry = s;
            first = first_same g.B.Geometry.shape c.args.set c.loop-other.other s c.loop-other.invariant.first (omega (arith, same));
            same = same_more g.B.Geometry.shape c.args.set c.loop-other.other s c.loop-other.canonicalizing c.loop-other.invariant.same same;
            is = c.loop-other.invariant.is;
          })
      | else-mask+else-mask-2 w ↦
          let more : image_of (g.B.Geometry.shape.image s) c.args.set < image_of (g.B.Geometry.shape.image c.loop-other.other) c.args.set =
          omega (arith, w.if-mask.false, w.if-mask-2.false, c.mask.ensures, c.mask-in-loop-other.ensures, w.mask-else-mask.ensures, w.mask-else-mask-2.ensures, c.image_of-image.ensures, c.loop-other.invariant.is) in
          rw (w.least-is, w.canonicalizing-is) (record {
            symmetry = s;
            first = first_same g.B.Geometry.shape c.args.set c.loop-other.other s c.loop-other.invariant.first (omega (arith, more));
            same = same_no g.B.Geometry.shape c.args.set c.loop-other.other s c.loop-other.canonicalizing c.loop-other.invariant.same more;
            is = c.loop-other.invariant.is;
          })
    ]

pub returns-clause-canonicalizing : goal.returns-clause-canonicalizing
returns-clause-canonicalizing g c =
    let some = g.met.B.Geometry.has_symmetries.some in
    let end : c.loop-other.other ≡ g.B.Geometry.shape.symmetries =
    omega (arith, some, g.met.B.Geometry.symmetry_count, c.SYMMETRIES-other-end.ensures, c.loop-other-test.false, c.loop-other.auto.other-end) in
    let found : IsLeastSoFar g.B.Geometry.shape g.B.Geometry.shape.symmetries c.args.set c.loop-other.least c.loop-other.canonicalizing =
    subst (λ n. IsLeastSoFar g.B.Geometry.shape n c.args.set c.loop-other.least c.loop-other.canonicalizing) end c.loop-other.invariant in
    canonicalizing_set g.B.Geometry.shape c.args.set found.symmetry c.loop-other.canonicalizing found.first found.same

pub returns-clause-image : goal.returns-clause-image
unfolding representative_of
returns-clause-image g c =
    let some = g.met.B.Geometry.has_symmetries.some in
    let end : c.loop-other.other ≡ g.B.Geometry.shape.symmetries =
    omega (arith, some, g.met.B.Geometry.symmetry_count, c.SYMMETRIES-other-end.ensures, c.loop-other-test.false, c.loop-other.auto.other-end) in
    let found : IsLeastSoFar g.B.Geometry.shape g.B.Geometry.shape.symmetries c.args.set c.loop-other.least c.loop-other.canonicalizing =
    subst (λ n. IsLeastSoFar g.B.Geometry.shape n c.args.set c.loop-other.least c.loop-other.canonicalizing) end c.loop-other.invariant in
    found.is ∙ ap (λ s. image_of (g.B.Geometry.shape.image s) c.args.set) (sym (first_is g.B.Geometry.shape c.args.set found.symmetry found.first))
