use Rattle.std.proofs.Common.{◌<◌, arith}
use Rattle.morris_board.proofs.Tables.{row_in_table, row_entry}
use Rattle.morris_board.proofs.board.Geometry.mills_through.Goals as goal

pub bounds-tables-point : goal.bounds-tables-point
bounds-tables-point g c =
    let here : c.args.point < g.Self.Geometry.shape.points = omega (arith, g.met.Self.Geometry.point_count, c.requires) in
    row_in_table g.Self.Geometry.shape c.tables.result.now.mills_through.now c.tables.ensures.mills_through c.args.point here

pub bounds-tables-point-2 : goal.bounds-tables-point-2
bounds-tables-point-2 g c =
    let here : c.args.point < g.Self.Geometry.shape.points = omega (arith, g.met.Self.Geometry.point_count, c.requires) in
    row_in_table g.Self.Geometry.shape c.tables.result.now.mills_through.now c.tables.ensures.mills_through c.args.point here

pub returns : goal.returns
returns g c =
    let here : c.args.point < g.Self.Geometry.shape.points = omega (arith, g.met.Self.Geometry.point_count, c.requires) in
    rw (c.from_mask.ensures, c.from_mask-2.ensures) (row_entry g.Self.Geometry.shape c.tables.result.now.mills_through.now c.tables.ensures.mills_through c.args.point here)
