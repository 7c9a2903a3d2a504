use Rattle.std.specs.List.{All}
use Rattle.morris_pairs.specs.Chunks.{ChunkIsAsAsked}
use Rattle.morris_pairs.proofs.chunks.Claim.add_known.Given as goal

abbrev pub invariant-loop : goal.invariant-loop
invariant-loop g l = All (ChunkIsAsAsked g.B.Geometry.shape g.B.Geometry.POINTS l.self.raw.now l.grouping) l.known.items
