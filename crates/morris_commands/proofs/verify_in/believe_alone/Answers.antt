-- Why the table isn't believed, once the pairs below are swept.
use Rattle.std.proofs.lemmas.Result.{IfErr-weaker, err_from_is_err_and}
use Rattle.morris_jobs.specs.Inputs.{IsUnfit}
use Rattle.morris_commands.specs.Verify.{IsUnverified}
use Rattle.morris_commands.proofs.AloneLaws.{unbelieved_before, unfit}
use Rattle.morris_commands.proofs.verify_in.believe_alone.Goals as goal

pub returns-in_err-shelf-clause-refused : goal.returns-in_err-shelf-clause-refused
returns-in_err-shelf-clause-refused g c =
    let failed = err_from_is_err_and c.from_residual.result c.from_residual.ensures.1 in
    rw (failed.1, failed.2) (unbelieved_before g.B.Geometry.shape c.args.raw 0 _ (rw c.pair.ensures.value at c.in_err-shelf.ensures.refused))

pub returns-clause-refused : goal.returns-clause-refused
returns-clause-refused g c =
    let board = g.B.Geometry.shape in
    let within = rw c.pair.ensures.value at c.in_ok-shelf.ensures.within in
    let ready = rw c.pair.ensures.value at c.in_ok-shelf.ensures.ready in
    IfErr-weaker _ (IsUnfit board c.in_ok-shelf.shelf c.args.raw) (IsUnverified board c.args.raw 0)
    (λ e h. unfit board c.args.raw c.in_ok-shelf.shelf 0 e within ready h) c.verify_over.ensures.refused
