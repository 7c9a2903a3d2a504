use Rattle.std.proofs.Common.{sym, subst, ◌∙◌}
use Rattle.morris_index.specs.Pairs.{IsPair}
use Rattle.morris_pairs.specs.Orders.{Rows}
use Rattle.morris_pairs.proofs.GraphLaws.{quiet_count_at}
use Rattle.morris_pairs.proofs.row_graph.RowGraphGraph.quiet_count.Goals as goal

pub returns : goal.returns
returns g c =
    c.quiet_moves.ensures
    ∙ quiet_count_at g.B.Geometry.shape g.met.B.Geometry.is_lawful g.met.B.Geometry.has_symmetries g.B.Geometry.POINTS g.met.B.Geometry.point_count Rows c.args.self.now
    (subst (λ n. IsPair n c.args.self.now) (sym g.met.B.Geometry.point_count) c.position-position.ensures.pair)
    c.position-position.result c.position-position.ensures.lawful c.position-position.ensures.counts c.position-position.ensures.own c.args.i
    c.position-position.ensures.node
