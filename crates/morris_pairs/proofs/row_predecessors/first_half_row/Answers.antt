use Rattle.std.proofs.Common.{arith}
use Rattle.morris_pairs.proofs.RowBackLaws.{row_greater}
use Rattle.morris_pairs.proofs.row_predecessors.first_half_row.Goals as goal

pub row_from-entries-requires : goal.row_from-entries-requires
row_from-entries-requires g c = omega (arith, c.first_half.ensures.within, c.first_half.ensures.value, c.requires.inside)

pub returns-clause-greater : goal.returns-clause-greater
returns-clause-greater g c =
    let one = c.len.ensures.stand 0 (omega (arith, c.len.ensures.some)) in
    row_greater g.B.Geometry.shape g.B.Geometry.POINTS g.met.B.Geometry.few g.met.B.Geometry.point_count g.met.B.Geometry.has_symmetries c.args.classes.now
    c.pair.ensures.lawful c.requires.two c.row_from-entries.result c.row_from-entries.ensures.pair one.0 one.1.inside (omega (arith, c.row_from-entries.ensures.first, c.requires.inside))
