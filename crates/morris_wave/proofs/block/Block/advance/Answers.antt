use Rattle.std.proofs.Common.{◌≡◌, ◌<◌, ℕ, ◌+◌, Bool, false, List, length, replicate, sym, ap, ap₂, ◌∙◌, arith}
use Rattle.morris_wave.specs.Blocks.{is_complete}
use Rattle.morris_wave.specs.Counts.{counts_of}
use Rattle.morris_wave.specs.Nets.{times}
use Rattle.morris_wave.specs.Lists.{list_at}
use Rattle.morris_wave.proofs.Widths.{left_enough}
use Rattle.morris_wave.proofs.Blocking.{advance_enough, advance_few, advance_holds}
use Rattle.morris_wave.proofs.block.Block.advance.Goals as goal

pub invariant_of-self : goal.invariant_of-self
invariant_of-self g c =
    let inside = c.self.inside in
    let node_range = inside.node_range in
    let after = c.next_wave.new.self in
    let made = c.next_wave.ensures in
    let complete = ap is_complete c.self.view_is ∙ (sym c.is_complete.ensures ∙ c.if-not-is_complete.false) in
    let early : node_range.entries.wave < 65534 = omega (arith, c.self.invariant.wave, c.if-self.false) in
    let holds = advance_holds (g.N.Levels.lawful inside.level) c.self.invariant complete early after.entries.codes (counts_of after.counters)
    (omega (arith, made.len))
    (omega (arith, after.counted, node_range.counted, made.len)) after.small made.comes in
    let applied : List Bool = c.fill.new.self.items in
    let taken_from : List ℕ = c.fill-2.new.self.items in
    let none : applied ≡ replicate inside.cut.blocks false = c.fill.ensures.items (λ y e. e) ∙ ap (λ (n : ℕ). replicate n false) (inside.applied.ok.0 ∙ c.self.invariant.sources) in
    let starts : taken_from ≡ replicate inside.cut.blocks inside.cut.size =
    c.fill-2.ensures.items (λ y e. e) ∙ ap₂ (λ (n x : ℕ). replicate n x) (inside.taken_from.ok.0 ∙ c.self.invariant.starts) c.size.ensures.value in
    rw (made.wave, made.first, made.due, made.last_due, made.most, none, starts) holds

pub next_wave-requires-clause-enough : goal.next_wave-requires-clause-enough
next_wave-requires-clause-enough g c = λ even k l.
    let node_range = c.self.inside.node_range in
    let law = g.N.Levels.lawful c.self.inside.level in
    let complete = ap is_complete c.self.view_is ∙ (sym c.is_complete.ensures ∙ c.if-not-is_complete.false) in
    let early : node_range.entries.wave < 65534 = omega (arith, c.self.invariant.wave, c.if-self.false) in
    let place : k < length node_range.entries.codes = omega (arith, l) in
    left_enough node_range.counters k (times (node_range.entries.first + k) (list_at node_range.due (node_range.entries.wave + 1)))
    (advance_enough law c.self.invariant complete early k place)
    (advance_few law c.self.invariant complete early even k place)
