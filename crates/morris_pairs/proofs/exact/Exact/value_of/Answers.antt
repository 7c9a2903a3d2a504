use Rattle.std.proofs.Common.{◌≡◌, sym, ap, subst, slice_index, ◌∙◌}
use Rattle.morris_pairs.specs.Codes.{IsValue}
use Rattle.morris_pairs.specs.Entries.{entry_index}
use Rattle.morris_pairs.specs.Tables.{IsTable}
use Rattle.morris_pairs.proofs.TableLaws.{code_at}
use Rattle.morris_pairs.proofs.exact.Exact.value_of.Goals as goal

pub returns-clause-value : goal.returns-clause-value
returns-clause-value g c =
    let lawful : IsTable g.B.Geometry.shape c.args.self.now = rw (← c.self.view_is) c.self.invariant in
    let at : c.entry.result ≡ entry_index g.B.Geometry.shape g.B.Geometry.POINTS c.args.self.now.layout c.args.self.now.pair c.args.position.now =
    rw (← c.self.view_is) c.entry.ensures.value in
    subst (IsValue g.B.Geometry.shape c.args.position.now) (sym c.value_of_code.ensures)
    (code_at g.B.Geometry.shape g.B.Geometry.POINTS c.args.self.now g.met.B.Geometry.point_count lawful c.args.position.now c.own.ensures.lawful
    c.requires c.code.result (c.code.ensures ∙ ap (slice_index c.args.self.now.codes) at))
