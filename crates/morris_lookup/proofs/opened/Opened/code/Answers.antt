use Rattle.std.proofs.Common.{◌+◌, ◌*◌, ◌≤◌, ◌<◌, ap, subst, arith}
use Rattle.morris_pairs.specs.Entries.{entry_count}
use Rattle.morris_lookup.specs.Opening.{OpenFile, open_file}
use Rattle.morris_lookup.proofs.FileLookups.{read_stated, read_answer, exact_code}
use Rattle.morris_lookup.proofs.PieceLaws.{chunk_there}
use Rattle.morris_lookup.proofs.OpeningLaws.{known_framed}
use Rattle.morris_lookup.proofs.opened.Opened.code.Goals as goal

pub read_at-requires : goal.read_at-requires
read_at-requires g c =
    chunk_there g.B.Geometry.shape g.B.Geometry.POINTS g.met.B.Geometry.point_count (g.S.Storage.contents c.self.inside.storage) _ _ (known_framed _ _ c.self.invariant.0) c.entry.result 1
    (omega (arith, rw (c.numbering.ensures.layout, c.numbering.ensures.pair, ← c.self.view_is) at (c.entry.ensures.below c.numbering.ensures.lists_fit)))

pub entry-requires-clause-of : goal.entry-requires-clause-of
entry-requires-clause-of g c = rw c.numbering.ensures.pair c.requires

pub returns-clause-stated : goal.returns-clause-stated
returns-clause-stated g c =
    let file : OpenFile = open_file c.self.inside.layout c.self.inside.pair (g.S.Storage.contents c.self.inside.storage) (g.S.Storage.held c.self.inside.storage) in
    rw (← c.self.view_is)
    (read_answer _ g.B.Geometry.shape file c.args.position.now (g.S.Storage.contents c.self.inside.storage) c.from_be_bytes.result
    (read_stated _ _ g.B.Geometry.shape g.B.Geometry.POINTS g.met.B.Geometry.point_count file c.args.position.now (g.S.Storage.contents c.self.inside.storage)
    (16 + 2 * c.entry.result) c.read_at.new.out c.in_ok-read_at.field-0 (ap (λ i. 16 + 2 * i) (rw (c.numbering.ensures.layout, c.numbering.ensures.pair, ← c.self.view_is) at (c.entry.ensures.value c.numbering.ensures.lists_fit))) c.read_at.ensures.size c.in_ok-read_at.ensures.bytes c.from_be_bytes.result
    c.from_be_bytes.ensures))

pub returns-clause-exact : goal.returns-clause-exact
returns-clause-exact g c =
    let file : OpenFile = open_file c.self.inside.layout c.self.inside.pair (g.S.Storage.contents c.self.inside.storage) (g.S.Storage.held c.self.inside.storage) in
    let few : g.B.Geometry.shape.points ≤ 24 = omega (arith, g.met.B.Geometry.point_count, g.met.B.Geometry.few) in
    rw (← c.self.view_is)
    (λ exact. exact_code g.B.Geometry.shape g.B.Geometry.POINTS g.met.B.Geometry.point_count few g.met.B.Geometry.has_symmetries
    file c.self.invariant.0 c.args.position.now c.own.ensures.lawful (rw (← c.self.view_is) at c.requires) c.from_be_bytes.result
    (read_stated _ _ g.B.Geometry.shape g.B.Geometry.POINTS g.met.B.Geometry.point_count file c.args.position.now (g.S.Storage.contents c.self.inside.storage)
    (16 + 2 * c.entry.result) c.read_at.new.out c.in_ok-read_at.field-0 (ap (λ i. 16 + 2 * i) (rw (c.numbering.ensures.layout, c.numbering.ensures.pair, ← c.self.view_is) at (c.entry.ensures.value c.numbering.ensures.lists_fit))) c.read_at.ensures.size c.in_ok-read_at.ensures.bytes c.from_be_bytes.result
    c.from_be_bytes.ensures)
    exact (subst (λ i. i < entry_count g.B.Geometry.shape g.B.Geometry.POINTS file.layout file.pair) (rw (c.numbering.ensures.layout, c.numbering.ensures.pair, ← c.self.view_is) at (c.entry.ensures.value c.numbering.ensures.lists_fit))
    (rw (c.numbering.ensures.layout, c.numbering.ensures.pair, ← c.self.view_is) at (c.entry.ensures.below c.numbering.ensures.lists_fit))))
