use Rattle.std.proofs.Common.{◌≡◌, [], List, None, IfOk, IfErr, subst}
use Rattle.std.proofs.lemmas.Result.{err_from_is_err_and}
use Rattle.morris_wave.specs.Blocks.{BlockState}
use Rattle.morris_wave.specs.Gathering.{first_complaint, HasAll, IsGatherFault, IsGathered}
use Rattle.morris_wave.specs.declared.gathering.GatherFault.TheVariants.{Memory}
use Rattle.morris_wave.proofs.Gathered.{all_fit, gathered, late_memory}
use Rattle.morris_wave.proofs.gathering.gather_from.Goals as goal

pub drain_codes-requires-clause-fit : goal.drain_codes-requires-clause-fit
drain_codes-requires-clause-fit g c κs within =
    let a = c.args in
    let walked : first_complaint a.level a.wave a.cut.now [] a.blocks.items ≡ None =
    subst (λ (bs : List BlockState). first_complaint a.level a.wave a.cut.now [] bs ≡ None) c.deref-2.ensures.value c.in_ok-places_of.ensures.walked in
    all_fit a.level a.wave a.cut.now [] a.blocks.items walked

pub returns-clause-gathered : goal.returns-clause-gathered
returns-clause-gathered g c =
    let a = c.args in
    let walked : first_complaint a.level a.wave a.cut.now [] a.blocks.items ≡ None =
    subst (λ (bs : List BlockState). first_complaint a.level a.wave a.cut.now [] bs ≡ None) c.deref-2.ensures.value c.in_ok-places_of.ensures.walked in
    let all : HasAll a.cut.now a.blocks.items = subst (λ (bs : List BlockState). HasAll a.cut.now bs) c.deref-2.ensures.value c.in_ok-places_of.ensures.all in
    gathered (g.N.Levels.net a.level) (g.N.Levels.lawful a.level) a.level a.wave a.cut.now a.blocks.items c.in_ok-codes.codes walked all c.in_ok-codes.ensures

pub returns-in_err-places_of-clause-fault : goal.returns-in_err-places_of-clause-fault
returns-in_err-places_of-clause-fault g c =
    let a = c.args in
    let failed = err_from_is_err_and c.from_residual.result c.from_residual.ensures.1 in
    rw (failed.1, failed.2) (subst (λ (bs : List BlockState). IsGatherFault a.level a.wave a.cut.now bs c.in_err-places_of.field-0.0) c.deref-2.ensures.value c.in_err-places_of.ensures.fault)

pub returns-in_err-codes-clause-fault : goal.returns-in_err-codes-clause-fault
returns-in_err-codes-clause-fault g c =
    let a = c.args in
    let failed = err_from_is_err_and c.from_residual-in_err-codes.result c.from_residual-in_err-codes.ensures.1 in
    rw (failed.1, failed.2)
    (subst (λ (bs : List BlockState). IsGatherFault a.level a.wave a.cut.now bs Memory) c.deref-2.ensures.value
    (late_memory a.level a.wave a.cut.now c.deref-2.result.now c.in_ok-places_of.ensures.walked c.in_ok-places_of.ensures.all))

pub returns-then-len-blocks : goal.returns-then-len-blocks
returns-then-len-blocks g c =
    let a = c.args in
    let same = c.deref-then-len-blocks.ensures.value in
    record {
      gathered = subst (λ (bs : List BlockState). IfOk c.gather.result (IsGathered (g.N.Levels.net a.level) a.level a.wave a.cut.now bs)) same c.gather.ensures.gathered;
      fault = subst (λ (bs : List BlockState). IfErr c.gather.result (IsGatherFault a.level a.wave a.cut.now bs)) same c.gather.ensures.fault;
    }
