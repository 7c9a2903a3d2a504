use Rattle.std.proofs.Common.{◌≡◌, ◌≤◌, ◌↔◌, true, not, inl, inr, sym, ap, subst, ◌∙◌, arith}
use Rattle.std.proofs.lemmas.Bool.{not-false}
use Rattle.morris_wave.specs.Values.{IsTooDeep}
use Rattle.morris_wave.specs.Blocks.{BlockState, IsSettled, is_complete}
use Rattle.morris_wave.proofs.Settled.{settled_iff, unsettled_deep}
use Rattle.morris_wave.proofs.block.Block.settled.Goals as goal

pub returns-clause-settled : goal.returns-clause-settled
returns-clause-settled g c =
    let node_range = c.self.inside.node_range in
    let law = g.N.Levels.lawful c.self.inside.level in
    let due : node_range.last_due ≤ node_range.entries.wave = omega (arith, c.if-from-self.false, c.from.ensures) in
    subst (λ (t : BlockState). (not c.has_fresh.result ≡ true) ↔ IsSettled (g.N.Levels.net t.level) t) c.self.view_is
    (settled_iff law c.self.invariant (ap is_complete c.self.view_is ∙ (sym c.is_complete.ensures ∙ c.if-not-is_complete.false)) due c.has_fresh.result c.has_fresh.ensures)

pub returns-clause-deep : goal.returns-clause-deep
returns-clause-deep g c = λ e complete last.
    let law = g.N.Levels.lawful c.self.inside.level in
    subst (λ (t : BlockState). IsTooDeep (g.N.Levels.net t.level)) c.self.view_is
    (unsettled_deep law c.self.invariant (ap is_complete c.self.view_is ∙ complete) (ap (λ t. t.wave) c.self.view_is ∙ last) (inr (sym c.has_fresh.ensures ∙ not-false c.has_fresh.result e)))

pub returns-then-from-self-clause-deep : goal.returns-then-from-self-clause-deep
returns-then-from-self-clause-deep g c = λ e complete last.
    let law = g.N.Levels.lawful c.self.inside.level in
    subst (λ (t : BlockState). IsTooDeep (g.N.Levels.net t.level)) c.self.view_is
    (unsettled_deep law c.self.invariant (ap is_complete c.self.view_is ∙ complete) (ap (λ t. t.wave) c.self.view_is ∙ last) (inl (omega (arith, c.if-from-self.true, c.from.ensures))))
