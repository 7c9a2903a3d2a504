use Rattle.morris_pairs.specs.declared.layout.Layout.TheVariants.{Classes}
use Rattle.morris_pairs.specs.Orders.{order_of}
use Rattle.std.proofs.Common.{sym, subst}
use Rattle.std.proofs.lemmas.Result.{on_ok_weaker}
use Rattle.morris_index.specs.Pairs.{IsPair}
use Rattle.morris_pairs.proofs.GraphLaws.{are_nodes, times_all_at, nodes_at}
use Rattle.morris_pairs.proofs.class_graph.ClassGraphGraph.back_from.Goals as goal

pub list_predecessors_of_all-requires : goal.list_predecessors_of_all-requires
list_predecessors_of_all-requires g c =
    rw (c.self.invariant.classes, c.self.invariant.pair)
    (are_nodes g.B.Geometry.shape g.met.B.Geometry.is_lawful g.met.B.Geometry.has_symmetries g.B.Geometry.POINTS g.met.B.Geometry.point_count (order_of Classes) c.self.inside.graph
    (subst (λ n. IsPair n c.self.inside.graph) (sym g.met.B.Geometry.point_count) c.self.invariant.lawful) c.args.nodes.now (rw (← c.self.view_is) at c.requires))

pub returns-clause-times : goal.returns-clause-times
returns-clause-times g c =
    rw (← c.self.view_is) (on_ok_weaker c.list_predecessors_of_all.result
    (times_all_at g.B.Geometry.shape g.met.B.Geometry.is_lawful g.met.B.Geometry.has_symmetries g.B.Geometry.POINTS g.met.B.Geometry.point_count (order_of Classes) c.self.inside.graph
    (subst (λ n. IsPair n c.self.inside.graph) (sym g.met.B.Geometry.point_count) c.self.invariant.lawful)
    c.list_predecessors_of_all.new.out.items c.args.nodes.now)
    (rw (c.self.invariant.classes, c.self.invariant.pair) at c.list_predecessors_of_all.ensures.times))

pub returns-clause-nodes : goal.returns-clause-nodes
returns-clause-nodes g c =
    rw (← c.self.view_is) (on_ok_weaker c.list_predecessors_of_all.result
    (nodes_at g.B.Geometry.shape g.met.B.Geometry.is_lawful g.met.B.Geometry.has_symmetries g.B.Geometry.POINTS g.met.B.Geometry.point_count (order_of Classes) c.self.inside.graph
    (subst (λ n. IsPair n c.self.inside.graph) (sym g.met.B.Geometry.point_count) c.self.invariant.lawful)
    c.list_predecessors_of_all.new.out.items)
    (rw (c.self.invariant.classes, c.self.invariant.pair) at c.list_predecessors_of_all.ensures.nodes))
