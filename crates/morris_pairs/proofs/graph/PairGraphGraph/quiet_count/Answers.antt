use Rattle.morris_pairs.specs.declared.layout.Layout.TheVariants.{Full}
use Rattle.morris_pairs.specs.Orders.{order_of}
use Rattle.std.proofs.Common.{◌≡◌, refl, length, subst, ◌∙◌}
use Rattle.morris_pairs.specs.PairNets.{level_of, net_at}
use Rattle.morris_pairs.proofs.GraphLaws.{is_node, quiet_count_at}
use Rattle.morris_pairs.proofs.graph.PairGraphGraph.quiet_count.Goals as goal

pub position-position-requires : goal.position-position-requires
position-position-requires g c =
    is_node g.B.Geometry.shape g.met.B.Geometry.is_lawful g.met.B.Geometry.has_symmetries g.B.Geometry.POINTS g.met.B.Geometry.point_count (order_of Full) c.self.inside.pair c.self.invariant.lawful c.args.i
    (rw (← c.self.view_is) at c.requires)

pub returns : goal.returns
returns g c =
    subst (λ d. c.quiet_moves.result ≡ length ((net_at g.B.Geometry.shape (level_of Full d)).quiet c.args.i)) c.self.view_is
    (c.quiet_moves.ensures
    ∙ quiet_count_at g.B.Geometry.shape g.met.B.Geometry.is_lawful g.met.B.Geometry.has_symmetries g.B.Geometry.POINTS g.met.B.Geometry.point_count (order_of Full) c.self.inside.pair c.self.invariant.lawful
    c.position-position.result c.position-position.ensures.lawful c.position-position.ensures.counts refl c.args.i c.position-position.ensures.index)
