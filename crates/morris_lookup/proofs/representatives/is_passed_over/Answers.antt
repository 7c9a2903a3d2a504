use Rattle.std.proofs.Common.{ℕ, ◌^◌, ◌<◌, ◌≤◌, sym, subst, inl, inr, arith}
use Rattle.morris_lookup.proofs.StretchLaws.{passed_by_count, passed_by_image}
use Rattle.morris_lookup.proofs.representatives.is_passed_over.Given.{Over}
use Rattle.morris_lookup.proofs.representatives.is_passed_over.Goals as goal
use Rattle.morris_lookup.proofs.representatives.is_passed_over.Goals.{then-count-via-then-count, then-count-via-else-count+then-count-2}

few : (g : Over) → g.B.Geometry.shape.points ≤ 24
few g = omega (arith, g.met.B.Geometry.few, g.met.B.Geometry.point_count)

within : (g : Over) (s : ℕ) → s < 2 ^ g.B.Geometry.POINTS → s < 2 ^ g.B.Geometry.shape.points
within g s h = subst (λ n. s < 2 ^ n) (sym g.met.B.Geometry.point_count) h

pub returns-then-count : goal.returns-then-count
returns-then-count g c = λ _ set small above below.
    passed_by_count g.B.Geometry.shape (few g) g.met.B.Geometry.has_symmetries c.args.count c.args.first c.args.last set (within g c.args.first c.requires.first) (within g set small) above below
    (elim c.then-count.branch [
      | then-count-via-then-count w ↦ inl (omega (arith, w.if-count.true, c.count.ensures.value))
      | then-count-via-else-count+then-count-2 w ↦ inr (omega (arith, w.if-count-2.true, w.count-else-count.ensures.value))
    ])

pub returns-then-mask : goal.returns-then-mask
returns-then-mask g c = λ _ set small above below.
    passed_by_image g.B.Geometry.shape (few g) g.met.B.Geometry.has_symmetries c.args.count c.args.first c.args.last set (within g c.args.first c.requires.first) (within g set small) above below
    c.loop-symmetry.symmetry
    (omega (arith, c.loop-symmetry-test.true, g.met.B.Geometry.symmetry_count, c.SYMMETRIES-symmetry-end.ensures))
    (omega (arith, c.if-mask.true, c.mask.ensures, c.mask-in-loop-symmetry.ensures, c.image_of.ensures))
