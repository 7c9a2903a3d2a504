use Rattle.std.proofs.Common.{sym, subst, ◌∙◌}
use Rattle.morris_index.specs.Pairs.{IsPair}
use Rattle.morris_pairs.specs.Orders.{Rows}
use Rattle.morris_pairs.proofs.GraphLaws.{exits_same}
use Rattle.morris_pairs.proofs.row_graph.RowGraphGraph.exits.Goals as goal

pub returns : goal.returns
returns g c =
    c.exits_at.ensures
    ∙ exits_same g.B.Geometry.shape g.met.B.Geometry.is_lawful g.met.B.Geometry.has_symmetries g.B.Geometry.POINTS g.met.B.Geometry.point_count Rows c.args.self.now
    (subst (λ n. IsPair n c.args.self.now) (sym g.met.B.Geometry.point_count) c.position.ensures.pair)
    c.position.result c.position.ensures.lawful c.position.ensures.counts c.position.ensures.own c.args.i c.position.ensures.node
