use Rattle.std.proofs.Common.{[]}
use Rattle.std.proofs.lemmas.Result.{err_from_is_err_and}
use Rattle.morris_wave.proofs.Gathered.{all_fit, gathered, late_memory}
use Rattle.morris_wave.proofs.gathering.gather.Goals as goal

pub in_order-requires-clause-fit : goal.in_order-requires-clause-fit
in_order-requires-clause-fit g c κs within = all_fit c.args.level c.args.wave c.args.cut.now [] c.args.blocks.now c.in_ok-places.ensures.walked

pub returns-clause-gathered : goal.returns-clause-gathered
returns-clause-gathered g c =
    let a = c.args in
    gathered (g.N.Levels.net a.level) (g.N.Levels.lawful a.level) a.level a.wave a.cut.now a.blocks.now c.in_ok-codes.codes c.in_ok-places.ensures.walked
    c.in_ok-places.ensures.all c.in_ok-codes.ensures

pub returns-in_err-places-clause-fault : goal.returns-in_err-places-clause-fault
returns-in_err-places-clause-fault g c =
    let failed = err_from_is_err_and c.from_residual.result c.from_residual.ensures.1 in
    rw (failed.1, failed.2) c.in_err-places.ensures.fault

pub returns-in_err-codes-clause-fault : goal.returns-in_err-codes-clause-fault
returns-in_err-codes-clause-fault g c =
    let failed = err_from_is_err_and c.from_residual-in_err-codes.result c.from_residual-in_err-codes.ensures.1 in
    rw (failed.1, failed.2) (late_memory c.args.level c.args.wave c.args.cut.now c.args.blocks.now c.in_ok-places.ensures.walked c.in_ok-places.ensures.all)
