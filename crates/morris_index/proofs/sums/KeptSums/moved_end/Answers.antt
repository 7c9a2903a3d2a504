-- What is kept for the stones below the point, and what the point adds.
use Rattle.std.proofs.Common.{◌+◌, ap, ap₂, ◌∙◌, arith, slice_index}
use Rattle.morris_index.specs.Binomials.{choose}
use Rattle.morris_index.proofs.RankLaws.{number-count}
use Rattle.morris_index.proofs.SumLaws.{standing, lower_is, lower-few, higher_is, higher-few}
use Rattle.morris_index.proofs.sums.KeptSums.moved_end.Goals as goal

pub bounds-self-place : goal.bounds-self-place
bounds-self-place c = omega (arith, (standing c.args.set c.args.point c.count_below-place.result c.requires.board c.requires.few c.requires.point c.count_below-place.ensures).1)

pub overflow_add-place : goal.overflow_add-place
overflow_add-place c = omega (arith, (standing c.args.set c.args.point c.count_below-place.result c.requires.board c.requires.few c.requires.point c.count_below-place.ensures).1)

pub binomial-requires : goal.binomial-requires
binomial-requires c = record {
  things = omega (arith, c.number_outside-number.ensures, number-count c.args.outside c.args.point, c.requires.point);
  chosen = omega (arith, (standing c.args.set c.args.point c.count_below-place.result c.requires.board c.requires.few c.requires.point c.count_below-place.ensures).1);
}

pub overflow_add-result : goal.overflow_add-result
overflow_add-result c =
    let is = standing c.args.set c.args.point c.count_below-place.result c.requires.board c.requires.few c.requires.point c.count_below-place.ensures in
    omega (arith, ap (slice_index c.args.self.now.lower) is.0, lower-few 1 c.args.outside c.args.set c.args.self.now c.requires.sums c.args.point (omega (arith, c.requires.point)), c.binomial.ensures.few)

pub returns-then-lower : goal.returns-then-lower
returns-then-lower c =
    let is = standing c.args.set c.args.point c.count_below-place.result c.requires.board c.requires.few c.requires.point c.count_below-place.ensures in
    record {
      value =
          rw c.if-lower.true (ap₂ (λ x y. x + y) (c.from.ensures ∙ ap (slice_index c.args.self.now.lower) is.0)
          (c.binomial.ensures.value ∙ ap₂ (λ m k. choose m (k + 1)) c.number_outside-number.ensures is.0)
          ∙ lower_is c.args.outside c.args.set c.args.self.now c.requires.sums c.args.point (omega (arith, c.requires.point)));
      few = omega (arith, ap (slice_index c.args.self.now.lower) is.0, lower-few 1 c.args.outside c.args.set c.args.self.now c.requires.sums c.args.point (omega (arith, c.requires.point)), c.binomial.ensures.few);
    }

pub bounds-self-place-else-lower : goal.bounds-self-place-else-lower
bounds-self-place-else-lower c = omega (arith, (standing c.args.set c.args.point c.count_below-place.result c.requires.board c.requires.few c.requires.point c.count_below-place.ensures).1)

pub binomial-requires-else-lower : goal.binomial-requires-else-lower
binomial-requires-else-lower c = record {
  things = omega (arith, c.number_outside-number.ensures, number-count c.args.outside c.args.point, c.requires.point);
  chosen = omega (arith, (standing c.args.set c.args.point c.count_below-place.result c.requires.board c.requires.few c.requires.point c.count_below-place.ensures).1);
}

pub overflow_add-result-else-lower : goal.overflow_add-result-else-lower
overflow_add-result-else-lower c =
    let is = standing c.args.set c.args.point c.count_below-place.result c.requires.board c.requires.few c.requires.point c.count_below-place.ensures in
    omega (arith, ap (slice_index c.args.self.now.higher) is.0, higher-few 1 c.args.outside c.args.set c.args.self.now c.requires.sums c.args.point (omega (arith, c.requires.point)), c.binomial-else-lower.ensures.few)

pub returns-else-lower : goal.returns-else-lower
returns-else-lower c =
    let is = standing c.args.set c.args.point c.count_below-place.result c.requires.board c.requires.few c.requires.point c.count_below-place.ensures in
    record {
      value =
          rw c.if-lower.false (ap₂ (λ x y. x + y) (c.from-else-lower.ensures ∙ ap (slice_index c.args.self.now.higher) is.0)
          (c.binomial-else-lower.ensures.value ∙ ap₂ (λ m k. choose m (k)) c.number_outside-number.ensures is.0)
          ∙ higher_is c.args.outside c.args.set c.args.self.now c.requires.sums c.args.point (omega (arith, c.requires.point)));
      few = omega (arith, ap (slice_index c.args.self.now.higher) is.0, higher-few 1 c.args.outside c.args.set c.args.self.now c.requires.sums c.args.point (omega (arith, c.requires.point)), c.binomial-else-lower.ensures.few);
    }
