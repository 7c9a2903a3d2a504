-- At the last wave a complete block that isn't settled shows that the graph is too deep.
use Rattle.std.proofs.Common.{◌≡◌, sym, ◌∙◌, subst, rules}
use Rattle.morris_wave.specs.Values.{IsTooDeep}
use Rattle.morris_workers.proofs.wave.Site.survey.Goals.{then-not-settled, else-not-settled}
use Rattle.morris_workers.proofs.wave.Site.survey.Goals as goal

pub loop-number-preserved : goal.loop-number-preserved
loop-number-preserved g c = λ not_settled last.
    elim c.if-not-settled.branch [
      | then-not-settled w ↦
          let block = c.deref-in-loop-number.result.now in
          let level : block.level ≡ g.G.Graph.level c.args.self.now.graph.now = search rules in
          let deep : IsTooDeep (g.G.Name.Levels.net block.level) = c.settled.ensures.deep (search rules) (search rules) (search rules) in
          subst (λ l. IsTooDeep (g.G.Name.Levels.net l)) level deep
      | else-not-settled w ↦ c.loop-number.invariant (sym w.settled-is ∙ not_settled) last
    ]
