use Rattle.std.proofs.Common.{ap, sym, subst}
use Rattle.morris_wave.specs.Batches.{FreshState, BatchState, BatchHolds}
use Rattle.morris_wave.specs.Scattering.{batch_of}
use Rattle.morris_wave.proofs.scattering.seal.Goals as goal

pub invariant_of-result : goal.invariant_of-result
invariant_of-result g c =
    let nodes = g.L.NodeList.items c.args.nodes in
    subst (λ (t : FreshState). BatchHolds (g.N.Levels.net t.level) (batch_of t c.args.target nodes)) (sym c.fresh.view_is) c.requires

pub returns-clause-made : goal.returns-clause-made
returns-clause-made g c = ap (λ (t : FreshState). batch_of t c.args.target (g.L.NodeList.items c.args.nodes)) c.fresh.view_is

pub returns-clause-holds : goal.returns-clause-holds
returns-clause-holds g c =
    let nodes = g.L.NodeList.items c.args.nodes in
    subst (λ (b : BatchState). BatchHolds (g.N.Levels.net c.args.fresh.now.level) b) (sym (ap (λ (t : FreshState). batch_of t c.args.target nodes) c.fresh.view_is)) c.requires
