-- A set more, and its class where it is a representative. The set after the last one isn't asked
-- for.
use Rattle.std.proofs.Common.{◌≡◌, ◌+◌, suc, sym, ap, ap₂, subst, ◌∙◌, arith}
use Rattle.morris_board.specs.Sets.{count_of}
use Rattle.morris_index.specs.Binomials.{choose}
use Rattle.morris_index.specs.Numbering.{IsRanked}
use Rattle.morris_index.proofs.IndexLaws.{number_outside-none}
use Rattle.morris_index.proofs.ClassCounts.{IsCounted, counted-none, counted-one, counted-other, counted-all}
use Rattle.morris_index.proofs.class_sizes.class_count.Goals as goal
use Rattle.morris_index.proofs.class_sizes.class_count.Goals.{in-Some, in_default, then-is_representative, else-is_representative}

pub least-set-requires-clause-fits : goal.least-set-requires-clause-fits
least-set-requires-clause-fits g c = omega (arith, c.requires.fits, c.POINTS-2.ensures, number_outside-none c.POINTS-2.result)

pub loop-init : goal.loop-init
loop-init g c = record {
  counted = counted-none g.B.Geometry.shape g.B.Geometry.POINTS c.args.count (omega (arith, g.met.B.Geometry.few)) g.met.B.Geometry.point_count g.met.B.Geometry.has_symmetries;
  next = λ h. subst (λ n. IsRanked n 0 c.args.count 0 c.least-set.result) c.POINTS-2.ensures c.least-set.ensures;
}

pub loop-preserved : goal.loop-preserved
loop-preserved g c =
    let sets : c.binomial-sets.result ≡ choose g.B.Geometry.POINTS c.args.count =
    c.binomial-sets.ensures.value ∙ ap (λ n. choose n c.args.count) c.POINTS.ensures in
    let here : IsRanked g.B.Geometry.POINTS 0 c.args.count c.loop.counter c.loop.set =
    c.loop.invariant.next (omega (arith, sets, c.loop-test.true)) in
    let more : suc c.loop.counter ≡ c.loop.counter + 1 = omega arith in
    record {
      counted = elim c.if-is_representative.branch [
        | then-is_representative w ↦
            rw w.classes-is (counted-one g.B.Geometry.shape g.B.Geometry.POINTS c.args.count (omega (arith, g.met.B.Geometry.few)) g.met.B.Geometry.point_count g.met.B.Geometry.has_symmetries c.loop.counter c.loop.set c.loop.classes here c.loop.invariant.counted
            (sym c.is_representative.ensures ∙ w.if-is_representative.true))
        | else-is_representative w ↦
            rw w.classes-is (counted-other g.B.Geometry.shape g.B.Geometry.POINTS c.args.count (omega (arith, g.met.B.Geometry.few)) g.met.B.Geometry.point_count g.met.B.Geometry.has_symmetries c.loop.counter c.loop.set c.loop.classes here c.loop.invariant.counted
            (sym c.is_representative.ensures ∙ w.if-is_representative.false))
      ];
      next = elim c.match-next_set.branch [
        | in-Some w ↦ λ h.
            rw w.set-is
            (subst (λ n. IsRanked n 0 c.args.count (c.loop.counter + 1) w.in-Some.next) c.POINTS-in-loop.ensures
            (subst (λ k. IsRanked c.POINTS-in-loop.result 0 k (c.loop.counter + 1) w.in-Some.next) here.counted
            (subst (λ r. IsRanked c.POINTS-in-loop.result 0 (count_of c.loop.set) r w.in-Some.next) (ap suc here.ranked ∙ more) w.in-Some.ensures)))
        | in_default w ↦ λ h.
            absurd (omega (
              arith,
              h,
              w.in_default.ensures,
              here.ranked,
              ap₂ choose (number_outside-none c.POINTS-in-loop.result ∙ c.POINTS-in-loop.ensures) here.counted,
            ))
      ];
    }

pub returns-clause-value : goal.returns-clause-value
returns-clause-value g c =
    let sets : c.binomial-sets.result ≡ choose g.B.Geometry.POINTS c.args.count =
    c.binomial-sets.ensures.value ∙ ap (λ n. choose n c.args.count) c.POINTS.ensures in
    let end : c.loop.counter ≡ choose g.B.Geometry.POINTS c.args.count = omega (arith, sets, c.loop-test.false, c.loop.auto.counter-end) in
    sym (counted-all g.B.Geometry.shape g.B.Geometry.POINTS c.args.count (omega (arith, g.met.B.Geometry.few)) g.met.B.Geometry.point_count g.met.B.Geometry.has_symmetries c.loop.classes
    (subst (λ k. IsCounted g.B.Geometry.shape g.B.Geometry.POINTS c.args.count k c.loop.classes) end c.loop.invariant.counted))

pub returns-clause-few : goal.returns-clause-few
returns-clause-few g c =
    let sets : c.binomial-sets.result ≡ choose g.B.Geometry.POINTS c.args.count =
    c.binomial-sets.ensures.value ∙ ap (λ n. choose n c.args.count) c.POINTS.ensures in
    omega (arith, sets, c.loop.invariant.counted.few, c.loop.auto.counter-end)
