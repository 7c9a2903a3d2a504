use Rattle.std.proofs.Common.{sym, subst, ◌∙◌, Option, arith}
use Rattle.morris_wave.specs.Gathering.{IsFaultAfter}
use Rattle.morris_wave.specs.declared.gathering.GatherFault.{GatherFault}
use Rattle.morris_wave.specs.declared.gathering.GatherFault.TheVariants.{Missing}
use Rattle.morris_wave.proofs.Gathered.{all_there}
use Rattle.morris_wave.proofs.gathering.places_of.Goals as goal

pub returns-in-Some-clause-fault : goal.returns-in-Some-clause-fault
returns-in-Some-clause-fault g c =
    let a = c.args in
    let places = c.in_ok-places.ensures.ok in
    let few = c.first_absent.ensures.few in
    let k = c.in-Some.number in
    subst (λ (found : Option GatherFault). IsFaultAfter found a.cut.now a.blocks.now (Missing k)) (sym c.in_ok-places.ensures.walked)
    (record {
      in_cut = c.in-Some.ensures.absent.0;
      absent = sym (places.came k (omega (arith, c.in-Some.ensures.absent.0, few))) ∙ c.in-Some.ensures.absent.1;
      least = λ m l. sym (places.came m (omega (arith, l, c.in-Some.ensures.absent.0, few))) ∙ c.in-Some.ensures.least m l;
    })

pub returns-in-None-clause-all : goal.returns-in-None-clause-all
returns-in-None-clause-all g c =
    all_there c.args.cut.now c.args.blocks.now c.in_ok-places.places c.in_ok-places.ensures.ok c.first_absent.ensures.few c.in-None.ensures.none
