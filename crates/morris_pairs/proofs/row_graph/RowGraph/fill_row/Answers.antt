use Rattle.std.proofs.Common.{get_or, ap, ◌∙◌, arith}
use Rattle.morris_pairs.proofs.row_graph.RowGraph.fill_row.Goals as goal

pub returns-clause-each : goal.returns-clause-each
returns-clause-each g c = λ k low s h of own at.
    c.loop-place.invariant.written k (omega (arith, low, c.loop-place-test.false))
    ∙ ap (λ i. get_or c.args.codes.now i 0) (c.list_nodes-many.ensures.nodes s h of own k low at)
