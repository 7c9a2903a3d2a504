use Rattle.morris_pairs.specs.declared.layout.Layout.TheVariants.{Classes}
use Rattle.morris_pairs.specs.Orders.{order_of}
use Rattle.std.proofs.Common.{◌≡◌, sym, subst, ◌∙◌}
use Rattle.morris_index.specs.Pairs.{IsPair}
use Rattle.morris_pairs.specs.PairNets.{level_of, net_at}
use Rattle.morris_pairs.proofs.GraphLaws.{size_at}
use Rattle.morris_pairs.proofs.class_graph.ClassGraphGraph.size.Goals as goal

pub returns : goal.returns
returns g c =
    let value = rw (c.self.invariant.classes, c.self.invariant.pair) at c.count.ensures.value in
    subst (λ d. c.count.result ≡ (net_at g.B.Geometry.shape (level_of Classes d)).size) c.self.view_is
    (value ∙ sym (size_at g.B.Geometry.shape g.met.B.Geometry.is_lawful g.met.B.Geometry.has_symmetries g.B.Geometry.POINTS g.met.B.Geometry.point_count (order_of Classes) c.self.inside.graph
    (subst (λ n. IsPair n c.self.inside.graph) (sym g.met.B.Geometry.point_count) c.self.invariant.lawful)))
