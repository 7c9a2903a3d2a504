-- Each point adds a binomial coefficient.
use Rattle.std.proofs.Common.{◌≡◌, ◌+◌, ◌∷◌, [], refl, sym, ap, ◌∙◌, subst, ◌++◌, length, length-append, arith}
use Rattle.morris_board.specs.Sets.{members}
use Rattle.morris_index.specs.Numbering.{number_outside}
use Rattle.morris_index.proofs.CarriedLaws.{split_after}
use Rattle.morris_index.proofs.RankLaws.{number-count}
use Rattle.morris_index.proofs.Moving.{rank-total}
use Rattle.morris_index.proofs.Following.{rank_set}
use Rattle.morris_index.proofs.SumLaws.{IsNext, IsSummed, next_point, counted_all, summed-all, summed-start, summed-next}
use Rattle.morris_index.proofs.ranks.rank_outside.Goals as goal
use Rattle.morris_index.proofs.ranks.rank_outside.Goals.{In-Some}

next : (c : In-Some) → IsNext c.args.set 24 c.in-Some.point c.loop-point.yielded
next c = next_point c.args.set 24 c.in-Some.point c.loop-point.yielded _ _ c.requires.board (omega arith) c.loop-point.invariant.split c.in-Some.ensures.steps

pub loop-point-init : goal.loop-point-init
loop-point-init c = record {
  split = ap members (c.into_iter-point-iterator.ensures.into_iter_gives ∙ c.iter-point-items.ensures.points);
  placed = refl;
  rank = summed-start c.args.set (number_outside c.args.outside) 1;
}

pub number_outside-requires : goal.number_outside-requires
number_outside-requires c = omega (arith, (next (goal.at.number_outside-requires c).In-Some).low)

pub binomial-rank-requires : goal.binomial-rank-requires
binomial-rank-requires c =
    let is = next (goal.at.binomial-rank-requires c).In-Some in
    record {
      things = omega (arith, is.low, number-count c.args.outside c.in-Some.point, c.number_outside.ensures);
      chosen = omega (arith, is.few, c.requires.few, c.loop-point.invariant.placed);
    }

pub loop-point-preserved : goal.loop-point-preserved
loop-point-preserved c =
    let is = next (goal.at.loop-point-preserved c).In-Some in
    let more : length c.loop-point.yielded + 1 ≡ length (c.loop-point.yielded ++ c.in-Some.point ∷ []) = sym (length-append c.loop-point.yielded (c.in-Some.point ∷ [])) in
    record {
      split = split_after c.loop-point.yielded _ c.in-Some.point _ _ c.in-Some.ensures.steps c.loop-point.invariant.split;
      placed = omega (arith, c.loop-point.invariant.placed, more);
      rank = subst (λ n. IsSummed c.args.set (number_outside c.args.outside) 1 n (c.loop-point.rank + c.binomial-rank.result)) more
          (summed-next c.args.set (number_outside c.args.outside) 1 (length c.loop-point.yielded) c.loop-point.rank c.in-Some.point c.number_outside.result
          (c.loop-point.place + 1) c.binomial-rank.result c.loop-point.invariant.rank is.here is.at c.number_outside.ensures
          (omega (arith, c.loop-point.invariant.placed)) c.binomial-rank.ensures.value c.binomial-rank.ensures.few);
    }

pub returns-clause-value : goal.returns-clause-value
returns-clause-value c =
    summed-all c.args.set 24 (number_outside c.args.outside) 1 c.loop-point.rank c.loop-point.yielded (members c.loop-point.point-iterator) c.requires.board (omega arith)
    c.loop-point.invariant.split c.in-None.ensures.steps.0 c.loop-point.invariant.rank
    ∙ sym (rank_set 24 c.args.outside (omega arith) c.args.set c.requires.board ∙ rank-total c.args.outside _ 24)

pub returns-clause-few : goal.returns-clause-few
returns-clause-few c =
    omega (
      arith,
      c.loop-point.invariant.rank.small,
      counted_all c.args.set c.loop-point.yielded (members c.loop-point.point-iterator) c.loop-point.invariant.split c.in-None.ensures.steps.0,
      c.requires.few,
    )
