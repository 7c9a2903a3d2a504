use Rattle.std.proofs.Common.{refl}
use Rattle.morris_pairs.proofs.counting.Entries.of.Goals as goal

pub invariant_of-result : goal.invariant_of-result
invariant_of-result g c = rw (c.in_ok-numbering.ensures.layout, c.in_ok-numbering.ensures.pair) c.requires

pub returns : goal.returns
returns g c = rw (c.in_ok-numbering.ensures.layout, c.in_ok-numbering.ensures.pair) refl
