use Rattle.std.proofs.Common.{Some, inl, refl}
use Rattle.morris_queries.proofs.OpenLaws.{reported_ok, never_refused}
use Rattle.morris_queries.proofs.values.Folder.value.Goals as goal

pub returns-in-Ok-clause-reported : goal.returns-in-Ok-clause-reported
returns-in-Ok-clause-reported g c = λ name files of.
    let m = c.in_ok-make_ready_for.ensures.stays.still name (Some files) of in
    inl (reported_ok g.B.Geometry.shape name _ files c.make_ready_for.new.self.tables.now c.args.position.now c.in-Ok.value (m.opened files refl)
    c.in_ok-make_ready_for.ensures.ready c.in-Ok.ensures.said)

pub returns-in-Err-Read-clause-reported : goal.returns-in-Err-Read-clause-reported
returns-in-Err-Read-clause-reported g c = λ name files of.
    let m = c.in_ok-make_ready_for.ensures.stays.still name (Some files) of in
    never_refused g.B.Geometry.shape name _ files c.make_ready_for.new.self.tables.now c.args.position.now _ (m.opened files refl)
    c.in_ok-make_ready_for.ensures.ready c.in-Err-Read.ensures.said
