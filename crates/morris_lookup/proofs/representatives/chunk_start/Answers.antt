use Rattle.morris_lookup.proofs.StretchLaws.{chunk_within, few_masks}
use Rattle.morris_lookup.proofs.representatives.chunk_start.Goals as goal

pub returns-clause-within : goal.returns-clause-within
returns-clause-within g c = rw c.chunk_size.ensures.value (chunk_within g.B.Geometry.POINTS c.args.number c.requires)

pub returns-clause-few : goal.returns-clause-few
returns-clause-few g c = few_masks g.B.Geometry.POINTS g.met.B.Geometry.few
