use Rattle.std.proofs.Common.{◌≡◌, ◌+◌, ◌*◌, ◌≤◌, ◌∙◌, length, take, drop, refl, arith, length-take}
use Rattle.morris_pairs.specs.Entries.{entry_count}
use Rattle.morris_lookup.proofs.OpeningLaws.{known_framed}
use Rattle.morris_lookup.proofs.PieceLaws.{chunk_of, chunk_there, read_fails}
use Rattle.morris_lookup.proofs.opened.Opened.read_codes.Goals as goal

pub read_at-requires : goal.read_at-requires
read_at-requires g c =
    let many = c.min-many.result in
    let size : length (take (2 * many) c.args.out.now) ≡ 2 * many = omega (arith, length-take (2 * many) c.args.out.now, c.min-many.ensures) in
    let within : c.args.first + many ≤ entry_count g.B.Geometry.shape g.B.Geometry.POINTS c.self.inside.layout c.self.inside.pair =
    omega (arith, c.min-many.ensures, rw (← c.self.view_is) at c.count.ensures.value, rw (← c.self.view_is) at c.requires.inside) in
    rw size
    (chunk_there g.B.Geometry.shape g.B.Geometry.POINTS g.met.B.Geometry.point_count (g.S.Storage.contents c.self.inside.storage) _ _ (known_framed _ _ c.self.invariant.0)
    c.args.first many within)

pub returns-clause-read : goal.returns-clause-read
returns-clause-read g c =
    let many = c.min-many.result in
    let size : length (take (2 * many) c.args.out.now) ≡ 2 * many = omega (arith, length-take (2 * many) c.args.out.now, c.min-many.ensures) in
    rw (← c.self.view_is)
    (chunk_of (g.S.Storage.held c.self.inside.storage) (16 + 2 * c.args.first) c.args.first many c.read_at.new.out (drop (2 * many) c.args.out.now) refl
    (c.read_at.ensures.size ∙ size) c.in_ok-read_at.ensures.right)

pub returns-in_err-read_at-clause-sure : goal.returns-in_err-read_at-clause-sure
returns-in_err-read_at-clause-sure g c = λ some.
    read_fails (g.S.Storage.contents c.self.inside.storage) (16 + 2 * c.args.first) c.read_at.new.out c.in_err-read_at.field-0.0 c.in_err-read_at.ensures.bytes
    (rw (← c.self.view_is) at some)
