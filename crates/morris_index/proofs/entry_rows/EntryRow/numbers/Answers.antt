use Rattle.std.proofs.Common.{◌≡◌, ◌<◌, length, slice_index, arith, rules}
use Rattle.morris_index.specs.EntryRows.{in_row}
use Rattle.morris_index.proofs.EntryRowLaws.{row_stands, row_numbers}
use Rattle.morris_index.proofs.entry_rows.EntryRow.numbers.Goals as goal

pub returns-clause-stands : goal.returns-clause-stands
returns-clause-stands g c =
    let low : c.args.place < length c.self.inside.numbers.now = rw (← c.self.view_is) at c.requires in
    let found =
    row_stands g.B.Geometry.shape g.B.Geometry.POINTS (omega (arith, g.met.B.Geometry.few)) g.met.B.Geometry.point_count g.met.B.Geometry.has_symmetries
    (in_row c.self.inside.pair c.self.inside.first c.self.inside.own (length c.self.inside.numbers.now)) c.self.inside.numbers.now c.self.invariant c.args.place low in
    rw (← c.self.view_is) (found.0, found.1.inside)

pub returns-clause-value : goal.returns-clause-value
returns-clause-value g c =
    let low : c.args.place < length c.self.inside.numbers.now = rw (← c.self.view_is) at c.requires in
    let read : c.from_mask.result ≡ slice_index c.self.inside.numbers.now c.args.place = search rules in
    rw (← c.self.view_is, read)
    (row_numbers g.B.Geometry.shape g.B.Geometry.POINTS (omega (arith, g.met.B.Geometry.few)) g.met.B.Geometry.point_count g.met.B.Geometry.has_symmetries
    (in_row c.self.inside.pair c.self.inside.first c.self.inside.own (length c.self.inside.numbers.now)) c.self.inside.numbers.now c.self.invariant c.args.place low)
