-- Each stone adds a binomial coefficient to each of the three sums.
use Rattle.std.proofs.Common.{◌≡◌, ◌+◌, ◌-◌, sym, ap, ◌∙◌, arith, refl, length-append, ◌∷◌, []}
use Rattle.std.proofs.lemmas.List.{length-set}
use Rattle.morris_board.specs.Sets.{has, members}
use Rattle.morris_index.specs.Numbering.{number_outside, count_below}
use Rattle.morris_index.proofs.CarriedLaws.{split_after}
use Rattle.morris_index.proofs.RankLaws.{number-count}
use Rattle.morris_index.proofs.SumLaws.{IsKept, IsNext, next_point, all_passed, summed-start, summed-next, kept-start, kept-next}
use Rattle.morris_index.proofs.sums.KeptSums.of.Goals as goal
use Rattle.morris_index.proofs.sums.KeptSums.of.Goals.{In-Some}

next : (c : In-Some) → IsNext c.args.set 24 c.in-Some.point c.loop-point.yielded
next c = next_point c.args.set 24 c.in-Some.point c.loop-point.yielded _ _ c.requires.board (omega arith) c.loop-point.invariant.split c.in-Some.ensures.steps

pub loop-point-init : goal.loop-point-init
loop-point-init c =
    let rank = summed-start c.args.set (number_outside c.args.outside) 1 in
    let rank_lower = summed-start c.args.set (λ p. number_outside c.args.outside p - (1 - c.args.moved)) (1 + c.args.moved) in
    let rank_higher = summed-start c.args.set (λ p. number_outside c.args.outside p + (1 - c.args.moved)) (1 - c.args.moved) in
    record {
      split = ap members (c.into_iter-point-iterator.ensures.into_iter_gives ∙ c.iter-point-items.ensures.points);
      placed = refl;
      rank = rank;
      rank_lower = rank_lower;
      rank_higher = rank_higher;
      lower_len = refl;
      higher_len = refl;
      lower = kept-start c.args.set _ _ _ refl rank.each rank_lower.each;
      higher = kept-start c.args.set _ _ _ refl rank_higher.each rank.each;
    }

pub number_outside-number-requires : goal.number_outside-number-requires
number_outside-number-requires c = omega (arith, (next (goal.at.number_outside-number-requires c).In-Some).low)

pub binomial-rank-requires : goal.binomial-rank-requires
binomial-rank-requires c =
    let is = next (goal.at.binomial-rank-requires c).In-Some in
    record {
      things = omega (arith, is.low, number-count c.args.outside c.in-Some.point, c.number_outside-number.ensures);
      chosen = omega (arith, is.few, c.requires.few, c.loop-point.invariant.placed);
    }

pub binomial-rank_lower-requires : goal.binomial-rank_lower-requires
binomial-rank_lower-requires c =
    let is = next (goal.at.binomial-rank_lower-requires c).In-Some in
    record {
      things = omega (arith, is.low, number-count c.args.outside c.in-Some.point, c.number_outside-number.ensures, c.saturating_sub.ensures);
      chosen = omega (arith, is.few, c.requires.few, c.loop-point.invariant.placed, c.requires.moved);
    }

pub overflow_add-number : goal.overflow_add-number
overflow_add-number c =
    omega (arith, (next (goal.at.overflow_add-number c).In-Some).low, number-count c.args.outside c.in-Some.point, c.number_outside-number.ensures)

pub binomial-rank_higher-requires : goal.binomial-rank_higher-requires
binomial-rank_higher-requires c =
    let is = next (goal.at.binomial-rank_higher-requires c).In-Some in
    record {
      things = omega (arith, is.low, number-count c.args.outside c.in-Some.point, c.number_outside-number.ensures);
      chosen = omega (arith, is.few, c.requires.few, c.loop-point.invariant.placed);
    }

pub overflow_sub-lower : goal.overflow_sub-lower
overflow_sub-lower c =
    omega (arith, (next (goal.at.overflow_sub-lower c).In-Some).few, c.requires.few, c.loop-point.invariant.placed, c.loop-point.invariant.rank_lower.small, c.binomial-rank_lower.ensures.few)

pub bounds-lower-place : goal.bounds-lower-place
bounds-lower-place c = omega (arith, (next (goal.at.bounds-lower-place c).In-Some).few, c.requires.few, c.loop-point.invariant.placed)

pub overflow_sub-higher : goal.overflow_sub-higher
overflow_sub-higher c =
    omega (arith, (next (goal.at.overflow_sub-higher c).In-Some).few, c.requires.few, c.loop-point.invariant.placed, c.loop-point.invariant.rank.small, c.binomial-rank.ensures.few)

pub bounds-higher-place : goal.bounds-higher-place
bounds-higher-place c = omega (arith, (next (goal.at.bounds-higher-place c).In-Some).few, c.requires.few, c.loop-point.invariant.placed)

pub loop-point-preserved : goal.loop-point-preserved
loop-point-preserved c =
    let is = next (goal.at.loop-point-preserved c).In-Some in
    let at : count_below (has c.args.set) c.in-Some.point ≡ c.loop-point.place = omega (arith, is.at, c.loop-point.invariant.placed) in
    let rank = summed-next c.args.set (number_outside c.args.outside) 1 c.loop-point.place c.loop-point.rank c.in-Some.point c.number_outside-number.result
    (c.loop-point.place + 1) c.binomial-rank.result c.loop-point.invariant.rank is.here at c.number_outside-number.ensures (omega arith)
    c.binomial-rank.ensures.value c.binomial-rank.ensures.few in
    let rank_lower = summed-next c.args.set (λ p. number_outside c.args.outside p - (1 - c.args.moved)) (1 + c.args.moved) c.loop-point.place c.loop-point.rank_lower c.in-Some.point _
    (c.loop-point.place + 1 + c.args.moved) c.binomial-rank_lower.result c.loop-point.invariant.rank_lower is.here at
    (c.saturating_sub.ensures ∙ ap (λ n. n - (1 - c.args.moved)) c.number_outside-number.ensures) (omega arith)
    c.binomial-rank_lower.ensures.value c.binomial-rank_lower.ensures.few in
    let rank_higher = summed-next c.args.set (λ p. number_outside c.args.outside p + (1 - c.args.moved)) (1 - c.args.moved) c.loop-point.place c.loop-point.rank_higher c.in-Some.point _
    (c.loop-point.place + 1 - c.args.moved) c.binomial-rank_higher.result c.loop-point.invariant.rank_higher is.here at
    (ap (λ n. n + (1 - c.args.moved)) c.number_outside-number.ensures) (omega (arith, c.requires.moved))
    c.binomial-rank_higher.ensures.value c.binomial-rank_higher.ensures.few in
    record {
      split = split_after c.loop-point.yielded _ c.in-Some.point _ _ c.in-Some.ensures.steps c.loop-point.invariant.split;
      placed = omega (arith, c.loop-point.invariant.placed, length-append c.loop-point.yielded (c.in-Some.point ∷ []));
      rank = rank;
      rank_lower = rank_lower;
      rank_higher = rank_higher;
      lower_len = length-set c.loop-point.lower (c.loop-point.place + 1) _ ∙ c.loop-point.invariant.lower_len;
      higher_len = length-set c.loop-point.higher (c.loop-point.place + 1) _ ∙ c.loop-point.invariant.higher_len;
      lower = kept-next c.args.set _ _ c.loop-point.place c.loop-point.lower _ _ _ c.loop-point.invariant.lower
          (omega (arith, is.few, c.requires.few, c.loop-point.invariant.placed, c.loop-point.invariant.lower_len)) rank.each rank_lower.each
          (omega (arith, is.few, c.requires.few, c.loop-point.invariant.placed, c.loop-point.invariant.rank_lower.small, c.binomial-rank_lower.ensures.few));
      higher = kept-next c.args.set _ _ c.loop-point.place c.loop-point.higher _ _ _ c.loop-point.invariant.higher
          (omega (arith, is.few, c.requires.few, c.loop-point.invariant.placed, c.loop-point.invariant.higher_len)) rank_higher.each rank.each
          (omega (arith, is.few, c.requires.few, c.loop-point.invariant.placed, c.loop-point.invariant.rank.small, c.binomial-rank.ensures.few));
    }

pub returns : goal.returns
unfolding IsKept
returns c =
    let passed = all_passed c.args.set c.loop-point.yielded (members c.loop-point.point-iterator) c.requires.board c.loop-point.invariant.split c.in-None.ensures.steps.0 in
    record {
      lower_len = c.loop-point.invariant.lower_len;
      higher_len = c.loop-point.invariant.higher_len;
      lower = λ n low. c.loop-point.invariant.lower n (omega (arith, (passed n low).0, c.loop-point.invariant.placed));
      higher = λ n low. c.loop-point.invariant.higher n (omega (arith, (passed n low).0, c.loop-point.invariant.placed));
      rank = c.loop-point.invariant.rank.each 24 ((passed 24 (omega arith)).1 ∙ sym c.loop-point.invariant.placed);
    }
