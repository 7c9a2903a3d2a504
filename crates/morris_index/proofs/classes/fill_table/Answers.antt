-- The set after the last one isn't asked for.
use Rattle.std.proofs.Common.{◌≡◌, ◌+◌, suc, ◌∙◌, ap, ap₂, subst, arith}
use Rattle.morris_board.specs.Sets.{count_of}
use Rattle.morris_index.specs.Binomials.{choose}
use Rattle.morris_index.specs.Numbering.{IsRanked}
use Rattle.morris_index.proofs.IndexLaws.{number_outside-none}
use Rattle.morris_index.proofs.classes.fill_table.Goals as goal
use Rattle.morris_index.proofs.classes.fill_table.Goals.{in-Some, in_default}

pub loop-index-init : goal.loop-index-init
loop-index-init g c = record {
  table = c.requires.before;
  next = λ h. subst (λ n. IsRanked n 0 c.args.count 0 c.least-set.result) c.POINTS-2.ensures c.least-set.ensures;
}

pub least-set-requires-clause-fits : goal.least-set-requires-clause-fits
least-set-requires-clause-fits g c = omega (arith, c.requires.fits, c.POINTS-2.ensures, number_outside-none c.POINTS-2.result)

pub loop-index-preserved : goal.loop-index-preserved
loop-index-preserved g c =
    let sets : c.binomial-sets.result ≡ choose g.B.Geometry.POINTS c.args.count =
    c.binomial-sets.ensures.value ∙ ap (λ n. choose n c.args.count) c.POINTS.ensures in
    let here : IsRanked g.B.Geometry.POINTS 0 c.args.count c.loop-index.index c.loop-index.set =
    c.loop-index.invariant.next (omega (arith, sets, c.loop-index-test.true)) in
    let more : suc c.loop-index.index ≡ c.loop-index.index + 1 = omega arith in
    record {
      table = c.in_ok-add_set.ensures;
      next = elim c.match-next_set.branch [
        | in-Some w ↦ λ h.
            rw w.set-is
            (subst (λ n. IsRanked n 0 c.args.count (c.loop-index.index + 1) w.in-Some.next) c.POINTS-in-loop-index.ensures
            (subst (λ k. IsRanked c.POINTS-in-loop-index.result 0 k (c.loop-index.index + 1) w.in-Some.next) here.counted
            (subst (λ r. IsRanked c.POINTS-in-loop-index.result 0 (count_of c.loop-index.set) r w.in-Some.next) (ap suc here.ranked ∙ more) w.in-Some.ensures)))
        | in_default w ↦ λ h.
            absurd (omega (
              arith,
              h,
              w.in_default.ensures,
              here.ranked,
              ap₂ choose (number_outside-none c.POINTS-in-loop-index.result ∙ c.POINTS-in-loop-index.ensures) here.counted,
            ))
      ];
    }
