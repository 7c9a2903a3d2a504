use Rattle.morris_pairs.specs.declared.layout.Layout.TheVariants.{Full}
use Rattle.morris_pairs.specs.Orders.{order_of}
use Rattle.std.proofs.Common.{◌≡◌, refl, subst, ◌∙◌}
use Rattle.morris_wave.specs.Exits.{exits_of}
use Rattle.morris_pairs.specs.PairNets.{level_of, net_at}
use Rattle.morris_pairs.proofs.GraphLaws.{is_node, exits_same}
use Rattle.morris_pairs.proofs.graph.PairGraphGraph.exits.Goals as goal

pub position-requires : goal.position-requires
position-requires g c =
    is_node g.B.Geometry.shape g.met.B.Geometry.is_lawful g.met.B.Geometry.has_symmetries g.B.Geometry.POINTS g.met.B.Geometry.point_count (order_of Full) c.self.inside.pair c.self.invariant.lawful c.args.i
    (rw (← c.self.view_is) at c.requires)

pub returns : goal.returns
returns g c =
    subst (λ d. c.exits_at.result ≡ exits_of ((net_at g.B.Geometry.shape (level_of Full d)).exits c.args.i)) c.self.view_is
    (c.exits_at.ensures
    ∙ exits_same g.B.Geometry.shape g.met.B.Geometry.is_lawful g.met.B.Geometry.has_symmetries g.B.Geometry.POINTS g.met.B.Geometry.point_count (order_of Full) c.self.inside.pair c.self.invariant.lawful
    c.position.result c.position.ensures.lawful c.position.ensures.counts refl c.args.i c.position.ensures.index)
