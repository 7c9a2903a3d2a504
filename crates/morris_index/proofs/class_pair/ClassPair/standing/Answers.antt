use Rattle.std.proofs.Common.{◌∙◌}
use Rattle.morris_index.proofs.class_pair.ClassPair.standing.Goals as goal

pub returns-clause-stands : goal.returns-clause-stands
returns-clause-stands g c = record {
  counts = c.requires.counts;
  symmetry = c.start_of-start.ensures.symmetry;
  place = c.place.view_is ∙ c.start_of-start.ensures.representative;
  second = c.place.invariant.0;
  third = c.place.invariant.1;
  start = c.start_of-start.ensures.start;
  few = c.start_of-start.ensures.few;
}
