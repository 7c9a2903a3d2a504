use Rattle.morris_pairs.specs.declared.layout.Layout.TheVariants.{Full}
use Rattle.morris_pairs.specs.Orders.{order_of}
use Rattle.std.proofs.lemmas.Result.{on_ok_weaker}
use Rattle.morris_pairs.proofs.GraphLaws.{is_node, times_at, nodes_at}
use Rattle.morris_pairs.proofs.graph.PairGraphGraph.back.Goals as goal

pub position-requires : goal.position-requires
position-requires g c =
    is_node g.B.Geometry.shape g.met.B.Geometry.is_lawful g.met.B.Geometry.has_symmetries g.B.Geometry.POINTS g.met.B.Geometry.point_count (order_of Full) c.self.inside.pair c.self.invariant.lawful c.args.i
    (rw (← c.self.view_is) at c.requires)

pub returns-clause-times : goal.returns-clause-times
returns-clause-times g c =
    rw (← c.self.view_is) (on_ok_weaker c.list_predecessors.result
    (times_at g.B.Geometry.shape g.met.B.Geometry.is_lawful g.met.B.Geometry.has_symmetries g.B.Geometry.POINTS g.met.B.Geometry.point_count (order_of Full) c.self.inside.pair c.self.invariant.lawful
    c.position.result c.list_predecessors.new.out.items c.args.i c.position.ensures.index)
    c.list_predecessors.ensures.times)

pub returns-clause-nodes : goal.returns-clause-nodes
returns-clause-nodes g c =
    rw (← c.self.view_is) (on_ok_weaker c.list_predecessors.result
    (nodes_at g.B.Geometry.shape g.met.B.Geometry.is_lawful g.met.B.Geometry.has_symmetries g.B.Geometry.POINTS g.met.B.Geometry.point_count (order_of Full) c.self.inside.pair c.self.invariant.lawful
    c.list_predecessors.new.out.items)
    c.list_predecessors.ensures.nodes)
