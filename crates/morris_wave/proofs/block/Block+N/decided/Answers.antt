use Rattle.std.proofs.Common.{◌≡◌, ℕ, cond, subst}
use Rattle.std.specs.List.{All}
use Rattle.std.specs.List.Sorted.{IsNonDecreasingBy}
use Rattle.morris_wave.specs.Nets.{times}
use Rattle.morris_wave.specs.Waves.{entry_at, is_decided_at}
use Rattle.morris_wave.specs.Blocks.{BlockState, IsIn, in_applied}
use Rattle.morris_wave.proofs.Settled.{list_inside, list_once, list_order}
use Rattle.morris_wave.proofs.block.Block+N.decided.Goals as goal

pub returns-clause-inside : goal.returns-clause-inside
returns-clause-inside g c =
    let law = g.N.Levels.lawful c.self.inside.level in
    subst (λ (t : BlockState). All (IsIn t.cut t.number) c.deref.result.now) c.self.view_is
    (list_inside law c.self.invariant c.deref.ensures.value c.self.inside.node_range.entries.ranked)

pub returns-clause-once : goal.returns-clause-once
returns-clause-once g c =
    let law = g.N.Levels.lawful c.self.inside.level in
    subst (λ (t : BlockState). (i : ℕ) → IsIn t.cut t.number i → times i c.deref.result.now ≡ cond {A = ℕ} (is_decided_at (g.N.Levels.net t.level) t.wave (in_applied t) i) 1 0) c.self.view_is
    (list_once law c.self.invariant c.deref.ensures.value c.self.inside.node_range.entries.ranked)

pub returns-clause-order : goal.returns-clause-order
returns-clause-order g c =
    let law = g.N.Levels.lawful c.self.inside.level in
    subst (λ (t : BlockState). IsNonDecreasingBy (entry_at (g.N.Levels.net t.level) t.wave (in_applied t)) c.deref.result.now) c.self.view_is
    (list_order law c.self.invariant c.deref.ensures.value c.self.inside.node_range.entries.ranked)
