use Rattle.std.proofs.Common.{◌<◌, ◌∙◌, arith}
use Rattle.morris_board.proofs.Tables.{table_length, table_entry}
use Rattle.morris_board.proofs.board.Geometry.neighbours.Goals as goal

pub bounds-tables-point : goal.bounds-tables-point
bounds-tables-point g c =
    let count = table_length _ _ _ c.tables.ensures.neighbours in omega (arith, count, g.met.Self.Geometry.point_count, c.requires)

pub returns : goal.returns
returns g c =
    let here : c.args.point < g.Self.Geometry.shape.points = omega (arith, g.met.Self.Geometry.point_count, c.requires) in
    c.from_mask.ensures ∙ table_entry _ _ _ c.tables.ensures.neighbours c.args.point 0 here
