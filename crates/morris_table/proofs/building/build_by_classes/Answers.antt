use Rattle.std.proofs.Common.{rules, subst}
use Rattle.morris_wave.specs.Values.{IsTooDeep}
use Rattle.morris_workers.specs.Solving.{IsRefusal}
use Rattle.morris_pairs.specs.declared.layout.Layout.TheVariants as layout
use Rattle.morris_pairs.specs.Orders.{Classes}
use Rattle.morris_pairs.specs.PairNets.{level_in, net_at}
use Rattle.morris_table.proofs.BuildLaws.{built_of_codes, refused_by_workers}
use Rattle.morris_table.proofs.building.build_by_classes.Goals as goal

pub returns-in-Err-clause-refused : goal.returns-in-Err-clause-refused
returns-in-Err-clause-refused g c =
    rw c.to_build_fault.ensures
    (refused_by_workers g.B.Geometry.shape c.args.pair layout.Classes Classes c.in_ok-graph.ensures.deep c.in_ok-graph.ensures.deep
    _ c.args.tables.now c.args.workers c.args.blocks c.in-Err.fault c.in_ok-graph.ensures.needs
    (subst (λ d. IsRefusal (net_at g.B.Geometry.shape (level_in Classes d)) c.args.workers c.args.blocks c.in-Err.fault) c.in_ok-graph.ensures.pair c.in-Err.ensures.refused))

pub returns-in-Ok-clause-exact : goal.returns-in-Ok-clause-exact
returns-in-Ok-clause-exact g c =
    built_of_codes g.B.Geometry.shape c.args.pair layout.Classes Classes c.in_ok-graph.ensures.deep c.in_ok-graph.ensures.deep
    (subst (λ d. IsTooDeep (net_at g.B.Geometry.shape (level_in Classes d)) → ⊥) c.in_ok-graph.ensures.pair c.in-Ok.ensures.codes.not_too_deep)
    _ (search rules) (search rules) (search rules)
