use Rattle.std.proofs.Common.{◌≤◌, length, ap, arith}
use Rattle.morris_lookup.proofs.EntryLaws.{serve_few}
use Rattle.morris_lookup.proofs.opened.Opened.numbering.Goals as goal

pub returns-clause-lists_fit : goal.returns-clause-lists_fit
returns-clause-lists_fit g c = rw (c.as_slice.ensures.value, c.as_slice-2.ensures.value, c.as_slice-3.ensures.value, c.as_slice-4.ensures.value) c.self.invariant.1

pub returns-clause-fits : goal.returns-clause-fits
returns-clause-fits g c =
    let low : g.B.Geometry.shape.points ≤ 24 = omega (arith, g.met.B.Geometry.few, g.met.B.Geometry.point_count) in
    let few = serve_few g.B.Geometry.shape low c.self.inside.layout c.self.inside.pair _ _ _ _ c.self.invariant.1 in
    (omega (arith, ap length c.as_slice.ensures.value, few.0), omega (arith, ap length c.as_slice-2.ensures.value, few.1))
