-- The canonicalizing symmetry of the results is the one that leaves each point where it is.
use Rattle.morris_index.proofs.FacingLaws.{canonical_itself_on}
use Rattle.morris_index.proofs.by_opponent.GroupMember.from.Goals as goal

pub canonical_by-requires-clause-canonical_form : goal.canonical_by-requires-clause-canonical_form
canonical_by-requires-clause-canonical_form g c =
    let k = c.self.invariant.1 in
    canonical_itself_on g.B.Geometry.shape g.B.Geometry.POINTS g.met.B.Geometry.few g.met.B.Geometry.point_count g.met.B.Geometry.has_symmetries c.self.inside.pair.now k.pair
    c.self.inside.from c.self.inside.symmetry c.self.inside.place c.self.inside.start k
