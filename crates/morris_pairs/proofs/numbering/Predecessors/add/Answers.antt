use Rattle.morris_board.specs.Sets.{members}
use Rattle.morris_pairs.proofs.BackLawsLoops.{leading_by_index}
use Rattle.morris_pairs.proofs.numbering.Predecessors.add.Goals as goal

pub returns-in-Full : goal.returns-in-Full
returns-in-Full g c =
    rw (
      c.in-Full.is,
      ← leading_by_index g.B.Geometry.shape g.B.Geometry.POINTS c.in-Full.indices.now.pair c.in-Full.indices.now.position c.args.to (members c.args.sources),
    ) c.add.ensures
