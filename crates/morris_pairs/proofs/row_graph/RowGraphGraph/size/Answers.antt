use Rattle.std.proofs.Common.{◌≡◌, ◌*◌, sym, subst, ◌∙◌, arith}
use Rattle.morris_index.specs.Pairs.{IsPair}
use Rattle.morris_pairs.specs.Orders.{Rows, row_size_of}
use Rattle.morris_pairs.specs.RowGraphs.{IsRowGraph}
use Rattle.morris_pairs.proofs.GraphLaws.{size_at}
use Rattle.morris_pairs.proofs.RowNodeLaws.{size-two_halves, split_is}
use Rattle.morris_pairs.proofs.row_graph.RowGraphGraph.size.Goals as goal

pub returns : goal.returns
returns g c =
    let here = subst (λ d. IsRowGraph g.B.Geometry.shape g.B.Geometry.POINTS d c.self.inside.classes c.self.inside.sets c.self.inside.moves) c.self.view_is c.self.invariant in
    let whole : 2 * c.first_half.result ≡ row_size_of g.B.Geometry.shape g.B.Geometry.POINTS c.args.self.now =
    omega (
      arith,
      size-two_halves g.B.Geometry.shape g.B.Geometry.POINTS g.met.B.Geometry.few g.met.B.Geometry.point_count g.met.B.Geometry.has_symmetries c.args.self.now here.lawful here.two,
      split_is g.B.Geometry.shape g.met.B.Geometry.is_lawful g.met.B.Geometry.has_symmetries g.B.Geometry.POINTS g.met.B.Geometry.few g.met.B.Geometry.point_count
          c.args.self.now here.lawful here.two c.self.inside.classes here.pair c.first_half.result c.first_half.ensures.value,
    ) in
    whole
    ∙ sym (size_at g.B.Geometry.shape g.met.B.Geometry.is_lawful g.met.B.Geometry.has_symmetries g.B.Geometry.POINTS g.met.B.Geometry.point_count Rows c.args.self.now
    (subst (λ n. IsPair n c.args.self.now) (sym g.met.B.Geometry.point_count) here.lawful))
