use Rattle.std.proofs.Common.{refl}
use Rattle.morris_index.specs.ClassPairs.{class_half_size}
use Rattle.morris_lookup.proofs.EntryLaws.{class_count-is}
use Rattle.morris_lookup.proofs.class_entries.class_half_size.Goals as goal

pub returns-clause-value : goal.returns-clause-value
unfolding class_half_size
returns-clause-value g c = λ listed.
    rw (class_count-is g.B.Geometry.shape c.args.own, ← listed, c.binomial.ensures.value, c.POINTS.ensures) refl
