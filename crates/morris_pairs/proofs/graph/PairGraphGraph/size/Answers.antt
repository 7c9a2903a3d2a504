use Rattle.morris_pairs.specs.declared.layout.Layout.TheVariants.{Full}
use Rattle.morris_pairs.specs.Orders.{order_of}
use Rattle.std.proofs.Common.{◌≡◌, sym, subst, ◌∙◌}
use Rattle.morris_pairs.specs.PairNets.{level_of, net_at}
use Rattle.morris_pairs.proofs.GraphLaws.{size_at}
use Rattle.morris_pairs.proofs.graph.PairGraphGraph.size.Goals as goal

pub returns : goal.returns
returns g c =
    subst (λ d. c.size.result ≡ (net_at g.B.Geometry.shape (level_of Full d)).size) c.self.view_is
    (c.size.ensures.value ∙ sym (size_at g.B.Geometry.shape g.met.B.Geometry.is_lawful g.met.B.Geometry.has_symmetries g.B.Geometry.POINTS g.met.B.Geometry.point_count (order_of Full) c.self.inside.pair c.self.invariant.lawful))
