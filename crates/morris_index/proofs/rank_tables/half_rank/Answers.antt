-- Each point adds a binomial coefficient.
use Rattle.std.proofs.Common.{◌≡◌, ◌+◌, ◌*◌, ◌≤◌, ◌∷◌, [], ◌++◌, refl, sym, ap, ◌∙◌, subst, length, length-append, arith}
use Rattle.morris_board.specs.Sets.{has, members, count_of}
use Rattle.morris_index.specs.Parts.{part_rank}
use Rattle.morris_index.specs.Numbering.{count_below}
use Rattle.morris_index.proofs.SetLaws.{count_of-below}
use Rattle.morris_index.proofs.CarriedLaws.{split_after}
use Rattle.morris_index.proofs.SumLaws.{IsNext, IsSummed, next_point, summed-all, summed-start, summed-next}
use Rattle.morris_index.proofs.rank_tables.half_rank.Goals as goal
use Rattle.morris_index.proofs.rank_tables.half_rank.Goals.{In-Some}

next : (c : In-Some) → IsNext c.args.points 12 c.in-Some.point c.loop-point.yielded
next c = next_point c.args.points 12 c.in-Some.point c.loop-point.yielded _ _ c.requires.points (omega arith) c.loop-point.invariant.split c.in-Some.ensures.steps

few : (c : In-Some) → c.args.place + count_of c.args.points ≤ 9
few c = omega (arith, c.count.ensures.value, ap count_of c.from_mask-set.ensures)

pub loop-point-init : goal.loop-point-init
loop-point-init c = record {
  split = ap members (c.into_iter-point-iterator.ensures.into_iter_gives ∙ c.iter-point-items.ensures.points ∙ c.from_mask-set.ensures);
  placed = omega arith;
  rank = summed-start c.args.points (λ i. 12 * c.args.half + i) (c.args.place + 1);
}

pub returns-then-place-count-gt9 : goal.returns-then-place-count-gt9
returns-then-place-count-gt9 c = λ few.
    let counted : c.count.result ≡ count_below (has c.args.points) 12 =
    c.count.ensures.value ∙ ap count_of c.from_mask-set.ensures ∙ count_of-below c.args.points 12 c.requires.points (omega arith) in
    absurd (omega (arith, counted, few))

pub overflow_add-half : goal.overflow_add-half
overflow_add-half c = omega (arith, (next (goal.at.overflow_add-half c).In-Some).low, c.requires.half)

pub binomial-rank-requires : goal.binomial-rank-requires
binomial-rank-requires c =
    let is = next (goal.at.binomial-rank-requires c).In-Some in
    record {
      things = omega (arith, is.low, c.requires.half);
      chosen = omega (arith, is.few, few (goal.at.binomial-rank-requires c).In-Some, c.loop-point.invariant.placed);
    }

pub loop-point-preserved : goal.loop-point-preserved
loop-point-preserved c =
    let is = next (goal.at.loop-point-preserved c).In-Some in
    let more : length c.loop-point.yielded + 1 ≡ length (c.loop-point.yielded ++ c.in-Some.point ∷ []) = sym (length-append c.loop-point.yielded (c.in-Some.point ∷ [])) in
    record {
      split = split_after c.loop-point.yielded _ c.in-Some.point _ _ c.in-Some.ensures.steps c.loop-point.invariant.split;
      placed = omega (arith, c.loop-point.invariant.placed, more);
      rank = subst (λ n. IsSummed c.args.points (λ i. 12 * c.args.half + i) (c.args.place + 1) n (c.loop-point.rank + c.binomial-rank.result)) more
          (summed-next c.args.points (λ i. 12 * c.args.half + i) (c.args.place + 1) (length c.loop-point.yielded) c.loop-point.rank c.in-Some.point _
          (c.loop-point.placed + 1) c.binomial-rank.result c.loop-point.invariant.rank is.here is.at refl
          (omega (arith, c.loop-point.invariant.placed)) c.binomial-rank.ensures.value c.binomial-rank.ensures.few);
    }

pub returns : goal.returns
unfolding part_rank
returns c = λ few.
    summed-all c.args.points 12 (λ i. 12 * c.args.half + i) (c.args.place + 1) c.loop-point.rank c.loop-point.yielded (members c.loop-point.point-iterator) c.requires.points (omega arith)
    c.loop-point.invariant.split c.in-None.ensures.steps.0 c.loop-point.invariant.rank
