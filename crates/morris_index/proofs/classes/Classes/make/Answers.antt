use Rattle.std.proofs.Common.{arith}
use Rattle.morris_index.proofs.KeepLaws.{table-none}
use Rattle.morris_index.proofs.classes.Classes.make.Goals as goal

pub fill_table-requires-clause-before : goal.fill_table-requires-clause-before
fill_table-requires-clause-before g c =
    rw (c.in_ok-with_capacity.ensures.items, c.new.ensures.items)
    (table-none g.B.Geometry.shape g.B.Geometry.POINTS c.args.count (omega (arith, g.met.B.Geometry.few)) g.met.B.Geometry.point_count g.met.B.Geometry.has_symmetries)
