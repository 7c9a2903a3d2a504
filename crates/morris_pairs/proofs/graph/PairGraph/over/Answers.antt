use Rattle.std.specs.Option.{option_copied}
use Rattle.morris_pairs.specs.Orders.{order_of}
use Rattle.morris_pairs.proofs.GraphLaws.{values_over, depths_over}
use Rattle.morris_pairs.proofs.HeadlineLaws.{whenever}
use Rattle.morris_pairs.proofs.graph.PairGraph.over.Goals as goal

pub returns-clause-values : goal.returns-clause-values
returns-clause-values g c = λ l.
    values_over g.B.Geometry.shape g.met.B.Geometry.is_lawful g.met.B.Geometry.has_symmetries g.B.Geometry.POINTS g.met.B.Geometry.point_count c.args.pair
    c.captured_pairs-less_lesser.result.0 c.captured_pairs-less_lesser.result.1 (option_copied c.needed_table.result) (option_copied c.needed_table-2.result)
    c.captured_pairs-less_lesser.ensures.lesser c.captured_pairs-less_lesser.ensures.greater c.captured_pairs-less_lesser.ensures.lawful
    c.needed_table.ensures c.needed_table-2.ensures (order_of l)

pub returns-clause-deep : goal.returns-clause-deep
returns-clause-deep g c = λ l.
    depths_over g.B.Geometry.shape g.met.B.Geometry.is_lawful g.met.B.Geometry.has_symmetries g.B.Geometry.POINTS g.met.B.Geometry.point_count c.args.pair
    c.captured_pairs-less_lesser.result.0 c.captured_pairs-less_lesser.result.1 (option_copied c.needed_table.result) (option_copied c.needed_table-2.result)
    c.captured_pairs-less_lesser.ensures.lesser c.captured_pairs-less_lesser.ensures.greater c.captured_pairs-less_lesser.ensures.lawful
    c.needed_table.ensures c.needed_table-2.ensures (order_of l)

pub returns-in-Some-clause-blocks : goal.returns-in-Some-clause-blocks
returns-in-Some-clause-blocks g c =
    whenever g.B.Geometry.shape g.met.B.Geometry.is_lawful g.met.B.Geometry.has_symmetries g.B.Geometry.POINTS g.met.B.Geometry.point_count c.args.pair
    c.captured_pairs-less_lesser.ensures.lawful

pub returns-clause-blocks : goal.returns-clause-blocks
returns-clause-blocks g c =
    whenever g.B.Geometry.shape g.met.B.Geometry.is_lawful g.met.B.Geometry.has_symmetries g.B.Geometry.POINTS g.met.B.Geometry.point_count c.args.pair
    c.captured_pairs-less_lesser.ensures.lawful
