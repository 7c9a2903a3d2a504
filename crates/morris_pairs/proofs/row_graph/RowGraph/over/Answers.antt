use Rattle.std.proofs.Common.{◌↔◌, subst}
use Rattle.morris_wave.specs.Values.{IsTooDeep}
use Rattle.morris_pairs.specs.Known.{IsBeyondCodes}
use Rattle.morris_pairs.specs.Orders.{Order}
use Rattle.morris_pairs.specs.PairNets.{level_in, net_at}
use Rattle.morris_pairs.proofs.row_graph.RowGraph.over.Goals as goal

pub returns-in_err-graph-clause-blocks : goal.returns-in_err-graph-clause-blocks
returns-in_err-graph-clause-blocks g c = c.over.ensures.blocks

pub returns-in_err-classes-clause-blocks : goal.returns-in_err-classes-clause-blocks
returns-in_err-classes-clause-blocks g c = c.over.ensures.blocks

pub returns-in_err-sets-clause-blocks : goal.returns-in_err-sets-clause-blocks
returns-in_err-sets-clause-blocks g c = c.over.ensures.blocks

pub returns-in_err-moves-clause-blocks : goal.returns-in_err-moves-clause-blocks
returns-in_err-moves-clause-blocks g c = c.over.ensures.blocks

pub returns-clause-deep : goal.returns-clause-deep
returns-clause-deep g c =
    subst (λ d. (o : Order) → (IsTooDeep (net_at g.B.Geometry.shape (level_in o d)) ↔ IsBeyondCodes g.B.Geometry.shape d)) c.in_ok-graph.ensures.pair c.values.ensures.deep

pub returns-clause-blocks : goal.returns-clause-blocks
returns-clause-blocks g c = c.over.ensures.blocks
