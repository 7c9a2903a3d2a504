-- What is kept for the stones below the point.
use Rattle.std.proofs.Common.{ap, ◌∙◌, arith, slice_index}
use Rattle.morris_index.proofs.SumLaws.{standing, before_is, lower-few, after_is, higher-few}
use Rattle.morris_index.proofs.sums.KeptSums.renumbered_end.Goals as goal

pub bounds-self-place : goal.bounds-self-place
bounds-self-place c = omega (arith, (standing c.args.set c.args.point c.count_below-place.result c.requires.board c.requires.few c.requires.point c.count_below-place.ensures).1)

pub returns-then-lower : goal.returns-then-lower
returns-then-lower c =
    let is = standing c.args.set c.args.point c.count_below-place.result c.requires.board c.requires.few c.requires.point c.count_below-place.ensures in
    record {
      value = rw c.if-lower.true (c.from.ensures ∙ ap (slice_index c.args.self.now.lower) is.0 ∙ before_is c.args.outside c.args.set c.args.self.now c.requires.sums c.args.point (omega (arith, c.requires.point)));
      few = omega (arith, ap (slice_index c.args.self.now.lower) is.0, lower-few 0 c.args.outside c.args.set c.args.self.now c.requires.sums c.args.point (omega (arith, c.requires.point)));
    }

pub bounds-self-place-else-lower : goal.bounds-self-place-else-lower
bounds-self-place-else-lower c = omega (arith, (standing c.args.set c.args.point c.count_below-place.result c.requires.board c.requires.few c.requires.point c.count_below-place.ensures).1)

pub returns-else-lower : goal.returns-else-lower
returns-else-lower c =
    let is = standing c.args.set c.args.point c.count_below-place.result c.requires.board c.requires.few c.requires.point c.count_below-place.ensures in
    record {
      value = rw c.if-lower.false (c.from-else-lower.ensures ∙ ap (slice_index c.args.self.now.higher) is.0 ∙ after_is c.args.outside c.args.set c.args.self.now c.requires.sums c.args.point (omega (arith, c.requires.point)));
      few = omega (arith, ap (slice_index c.args.self.now.higher) is.0, higher-few 0 c.args.outside c.args.set c.args.self.now c.requires.sums c.args.point (omega (arith, c.requires.point)));
    }
