use Rattle.std.proofs.Common.{Err, ap, rules, subst}
use Rattle.morris_wave.specs.Values.{IsTooDeep}
use Rattle.morris_pairs.specs.declared.layout.Layout.TheVariants.{Full}
use Rattle.morris_pairs.specs.Building.{IsUnswept, build_fault_of}
use Rattle.morris_pairs.specs.PairNets.{level_of, net_at}
use Rattle.morris_pairs.proofs.BuildLaws.{err_of, refused_by_sweep}
use Rattle.morris_pairs.proofs.sweeping.sweep_pair_watched.Goals as goal

pub returns-in_err-codes-clause-refused : goal.returns-in_err-codes-clause-refused
returns-in_err-codes-clause-refused g c =
    let fault = c.in_err-codes.field-0.0 in
    err_of c.from_residual-in_err-codes.result (IsUnswept g.B.Geometry.shape c.args.shelf.now c.args.pair) (build_fault_of fault) c.from_residual-in_err-codes.ensures.1
    (refused_by_sweep _ g.B.Geometry.shape c.args.shelf.now c.args.pair fault c.in_ok-graph.ensures.needs (c.in_ok-graph.ensures.deep Full).0
    (λ e. subst (λ d. IsTooDeep (net_at g.B.Geometry.shape (level_of Full d))) c.in_ok-graph.ensures.pair (c.in_err-codes.ensures.too_deep (ap Err e))))

pub returns-clause-exact : goal.returns-clause-exact
returns-clause-exact g c =
    let suffice : IsTooDeep (net_at g.B.Geometry.shape (level_of Full c.args.pair)) → ⊥ =
    subst (λ d. IsTooDeep (net_at g.B.Geometry.shape (level_of Full d)) → ⊥) c.in_ok-graph.ensures.pair c.in_ok-codes.ensures.not_too_deep in
    record {
      pair = search rules;
      layout = search rules;
      exact = search rules;
      not_too_deep = suffice;
      within = λ beyond. suffice ((c.in_ok-graph.ensures.deep Full).1 beyond);
    }
