use Rattle.morris_pairs.specs.declared.layout.Layout.TheVariants.{Classes}
use Rattle.morris_pairs.specs.Orders.{order_of}
use Rattle.std.proofs.Common.{◌≡◌, length, sym, subst, ◌∙◌}
use Rattle.morris_index.specs.Pairs.{IsPair}
use Rattle.morris_pairs.specs.PairNets.{level_of, net_at}
use Rattle.morris_pairs.proofs.GraphLaws.{is_node, quiet_count_at}
use Rattle.morris_pairs.proofs.class_graph.ClassGraphGraph.quiet_count.Goals as goal

pub position-position-requires : goal.position-position-requires
position-position-requires g c =
    rw (c.self.invariant.classes, c.self.invariant.pair)
    (is_node g.B.Geometry.shape g.met.B.Geometry.is_lawful g.met.B.Geometry.has_symmetries g.B.Geometry.POINTS g.met.B.Geometry.point_count (order_of Classes) c.self.inside.graph
    (subst (λ n. IsPair n c.self.inside.graph) (sym g.met.B.Geometry.point_count) c.self.invariant.lawful) c.args.i (rw (← c.self.view_is) at c.requires))

pub returns : goal.returns
returns g c =
    subst (λ d. c.quiet_moves.result ≡ length ((net_at g.B.Geometry.shape (level_of Classes d)).quiet c.args.i)) c.self.view_is
    (c.quiet_moves.ensures
    ∙ quiet_count_at g.B.Geometry.shape g.met.B.Geometry.is_lawful g.met.B.Geometry.has_symmetries g.B.Geometry.POINTS g.met.B.Geometry.point_count (order_of Classes) c.self.inside.graph
    (subst (λ n. IsPair n c.self.inside.graph) (sym g.met.B.Geometry.point_count) c.self.invariant.lawful)
    c.position-position.result c.position-position.ensures.lawful (rw c.self.invariant.pair at c.position-position.ensures.counts)
    (rw c.self.invariant.classes at c.position-position.ensures.own) c.args.i
    (rw (c.self.invariant.classes, c.self.invariant.pair) at c.position-position.ensures.entry))
