use Rattle.std.proofs.Common.{arith}
use Rattle.morris_board.specs.Positions.{sides}
use Rattle.morris_index.proofs.IndexLaws.{placed, within_24}
use Rattle.morris_index.proofs.StandingLaws.{index-is, index_below, index_few}
use Rattle.morris_index.proofs.pair.Pair.index_at.Goals as goal

pub rank_outside-requires-clause-board : goal.rank_outside-requires-clause-board
rank_outside-requires-clause-board g c =
    within_24 c.args.other g.B.Geometry.POINTS
    (placed g.B.Geometry.shape g.B.Geometry.POINTS (sides c.args.standing.now.own c.args.other) g.met.B.Geometry.point_count c.requires.lawful).other_within
    (omega (arith, g.met.B.Geometry.few))

pub overflow_add-result : goal.overflow_add-result
overflow_add-result g c =
    rw c.rank_outside.ensures.value
    (omega (arith, index_few g.B.Geometry.shape g.B.Geometry.POINTS (omega (arith, g.met.B.Geometry.few)) g.met.B.Geometry.point_count c.args.self.now c.args.standing.now c.args.other c.requires.stands c.requires.lawful))

pub returns-clause-value : goal.returns-clause-value
returns-clause-value g c =
    rw c.rank_outside.ensures.value
    (index-is g.B.Geometry.shape g.B.Geometry.POINTS (omega (arith, g.met.B.Geometry.few)) g.met.B.Geometry.point_count c.args.self.now c.args.standing.now c.args.other c.requires.stands c.requires.lawful)

pub returns-clause-below : goal.returns-clause-below
returns-clause-below g c =
    rw c.rank_outside.ensures.value
    (index_below g.B.Geometry.shape g.B.Geometry.POINTS (omega (arith, g.met.B.Geometry.few)) g.met.B.Geometry.point_count c.args.self.now c.args.standing.now c.args.other c.requires.stands c.requires.lawful)
