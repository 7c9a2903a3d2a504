use Rattle.morris_pairs.specs.declared.layout.Layout.TheVariants.{Classes}
use Rattle.morris_pairs.specs.Orders.{order_of}
use Rattle.std.proofs.Common.{◌+◌, ◌≤◌, length, sym, subst}
use Rattle.morris_index.specs.Pairs.{IsPair}
use Rattle.morris_pairs.proofs.GraphLaws.{size_at}
use Rattle.morris_pairs.proofs.class_graph.ClassGraphGraph.read_nodes.Goals as goal

pub read_rows-requires-clause-inside : goal.read_rows-requires-clause-inside
read_rows-requires-clause-inside g c =
    subst (λ k. c.args.first + length c.args.counts.now ≤ k)
    (size_at g.B.Geometry.shape g.met.B.Geometry.is_lawful g.met.B.Geometry.has_symmetries g.B.Geometry.POINTS g.met.B.Geometry.point_count (order_of Classes) c.self.inside.graph
    (subst (λ n. IsPair n c.self.inside.graph) (sym g.met.B.Geometry.point_count) c.self.invariant.lawful))
    (rw (← c.self.view_is) at c.requires.inside)
