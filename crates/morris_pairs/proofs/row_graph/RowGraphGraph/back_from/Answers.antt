use Rattle.std.proofs.Common.{◌<◌, sym, ap, subst, ◌∙◌}
use Rattle.std.proofs.lemmas.Result.{on_ok_weaker}
use Rattle.morris_index.specs.Pairs.{Counts}
use Rattle.morris_pairs.specs.RowGraphs.{IsRowGraph}
use Rattle.morris_pairs.proofs.RowBackLaws.{nodes_given, nodes_listed, times_listed}
use Rattle.morris_pairs.proofs.row_graph.RowGraphGraph.back_from.Goals as goal

pub list_predecessors_by_rows-requires-clause-two : goal.list_predecessors_by_rows-requires-clause-two
list_predecessors_by_rows-requires-clause-two g c = subst (λ (d : Counts). d.lesser < d.greater) (sym c.self.invariant.pair) c.self.invariant.two

pub list_predecessors_by_rows-requires-clause-sets : goal.list_predecessors_by_rows-requires-clause-sets
list_predecessors_by_rows-requires-clause-sets g c = c.self.invariant.sets ∙ ap (λ (d : Counts). d.greater) (sym c.self.invariant.pair)

pub list_predecessors_by_rows-requires-clause-nodes : goal.list_predecessors_by_rows-requires-clause-nodes
list_predecessors_by_rows-requires-clause-nodes g c =
    let here = subst (λ d. IsRowGraph g.B.Geometry.shape g.B.Geometry.POINTS d c.self.inside.classes c.self.inside.sets c.self.inside.moves) c.self.view_is c.self.invariant in
    nodes_given g.B.Geometry.shape g.met.B.Geometry.is_lawful g.met.B.Geometry.has_symmetries g.B.Geometry.POINTS g.met.B.Geometry.point_count c.args.self.now here.lawful
    c.self.inside.classes here.pair c.args.nodes.now c.requires

pub returns-clause-times : goal.returns-clause-times
returns-clause-times g c =
    let here = subst (λ d. IsRowGraph g.B.Geometry.shape g.B.Geometry.POINTS d c.self.inside.classes c.self.inside.sets c.self.inside.moves) c.self.view_is c.self.invariant in
    on_ok_weaker c.list_predecessors_by_rows.result
    (times_listed g.B.Geometry.shape g.met.B.Geometry.is_lawful g.met.B.Geometry.has_symmetries g.B.Geometry.POINTS g.met.B.Geometry.point_count c.args.self.now here.lawful
    c.self.inside.classes here.pair c.list_predecessors_by_rows.new.out.items c.args.nodes.now)
    c.list_predecessors_by_rows.ensures.times

pub returns-clause-nodes : goal.returns-clause-nodes
returns-clause-nodes g c =
    let here = subst (λ d. IsRowGraph g.B.Geometry.shape g.B.Geometry.POINTS d c.self.inside.classes c.self.inside.sets c.self.inside.moves) c.self.view_is c.self.invariant in
    on_ok_weaker c.list_predecessors_by_rows.result
    (nodes_listed g.B.Geometry.shape g.met.B.Geometry.is_lawful g.met.B.Geometry.has_symmetries g.B.Geometry.POINTS g.met.B.Geometry.point_count c.args.self.now here.lawful
    c.self.inside.classes here.pair c.list_predecessors_by_rows.new.out.items)
    c.list_predecessors_by_rows.ensures.nodes
