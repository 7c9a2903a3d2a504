use Rattle.std.proofs.Common.{length, arith}
use Rattle.morris_index.specs.EntryRows.{in_row}
use Rattle.morris_index.proofs.EntryRowLaws.{row_stands}
use Rattle.morris_index.proofs.entry_rows.EntryRow.len.Goals as goal

pub returns-clause-stand : goal.returns-clause-stand
returns-clause-stand g c = λ place inside.
    rw (← c.self.view_is)
    (row_stands g.B.Geometry.shape g.B.Geometry.POINTS (omega (arith, g.met.B.Geometry.few)) g.met.B.Geometry.point_count g.met.B.Geometry.has_symmetries
    (in_row c.self.inside.pair c.self.inside.first c.self.inside.own (length c.self.inside.numbers.now)) c.self.inside.numbers.now c.self.invariant place inside)
