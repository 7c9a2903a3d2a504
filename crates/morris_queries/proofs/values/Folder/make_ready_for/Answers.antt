use Rattle.std.proofs.Common.{sym}
use Rattle.morris_queries.proofs.OpenLaws.{value_refused}
use Rattle.morris_queries.proofs.values.Folder.make_ready_for.Goals as goal

pub returns-in-Some-clause-refused : goal.returns-in-Some-clause-refused
returns-in-Some-clause-refused g c = λ name files of.
    value_refused g.B.Geometry.shape name files c.args.position.now c.in-Some.pair (sym c.in-Some.ensures.pair) c.make_ready.result (c.make_ready.ensures.refused name files of)
