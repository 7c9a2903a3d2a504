use Rattle.morris_index.proofs.ReturningLaws.{transversal-none, transversal-more}
use Rattle.morris_index.proofs.transversals.make_transversals.Goals as goal

pub loop-class-init : goal.loop-class-init
loop-class-init g c = rw c.in_ok-table.ensures.items (transversal-none g.B.Geometry.shape g.B.Geometry.POINTS c.args.classes.now)

pub loop-class-preserved : goal.loop-class-preserved
loop-class-preserved g c =
    rw c.in_ok-push.ensures.items
    (transversal-more g.B.Geometry.shape g.B.Geometry.POINTS c.args.classes.now c.loop-class.class c.representative.result c.find_transversal.result c.loop-class.table.items c.loop-class.invariant
    c.representative.ensures.count c.representative.ensures.least c.representative.ensures.class c.find_transversal.ensures)
