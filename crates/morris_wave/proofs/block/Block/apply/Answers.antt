use Rattle.std.proofs.Common.{◌≡◌, ◌<◌, ℕ, ◌+◌, Bool, false, get_or, length, sym, ap, subst, ◌∙◌, arith}
use Rattle.std.proofs.lemmas.List.{get_or_read}
use Rattle.morris_wave.specs.Blocks.{BlockState}
use Rattle.morris_wave.specs.Batches.{BatchState, BatchHolds}
use Rattle.morris_wave.specs.Counts.{counts_of}
use Rattle.morris_wave.specs.Nets.{times}
use Rattle.morris_wave.proofs.Widths.{left_enough}
use Rattle.morris_wave.proofs.Blocking.{same_parts, batch_inside, apply_enough, apply_few, apply_holds}
use Rattle.morris_wave.proofs.block.Block.apply.Given as given
use Rattle.morris_wave.proofs.block.Block.apply.Goals as goal
use Rattle.morris_wave.proofs.block.Block.apply.Goals.{After-take_in-arg-1}

abbrev state : (g : given.Over) → After-take_in-arg-1 g → BlockState
state g c = record {
  level = c.self.inside.level;
  cut = c.self.inside.cut;
  number = c.self.inside.number;
  wave = c.self.inside.node_range.entries.wave;
  applied = c.self.inside.applied.items;
  taken_from = c.self.inside.taken_from.items;
}

abbrev sent : (g : given.Over) → After-take_in-arg-1 g → BatchState
sent g c = record {
  level = c.batch.inside.level;
  cut = c.batch.inside.cut;
  wave = c.batch.inside.wave;
  source = c.batch.inside.source;
  low = c.batch.inside.low;
  high = c.batch.inside.high;
  target = c.batch.inside.target;
  nodes = g.B.NodeList.items c.batch.inside.nodes;
}

-- the batch is of the block's cut, and goes on with a source that isn't applied
goes_on : (g : given.Over) (c : After-take_in-arg-1 g) → BatchHolds (g.N.Levels.net c.self.inside.level) (sent g c) × (c.batch.inside.cut ≡ c.self.inside.cut)
    × (get_or c.self.inside.applied.items c.batch.inside.source false ≡ false) × (c.batch.inside.high ≡ get_or c.self.inside.taken_from.items c.batch.inside.source 0)
goes_on g c =
    let inside = c.self.inside in
    let batch = c.batch.inside in
    let hb : BatchHolds (g.N.Levels.net inside.level) (sent g c) = subst (λ (l : ℕ). BatchHolds (g.N.Levels.net l) (sent g c)) c.if-batch-self.false c.batch.invariant in
    let cut : batch.cut ≡ inside.cut = same_parts batch.cut inside.cut (sym c.is_same.ensures ∙ c.if-not-is_same.false) in
    let source : batch.source < length inside.applied.items = omega (arith, hb.source, c.self.invariant.sources, ap (λ p. p.blocks) cut) in
    let start : batch.source < length inside.taken_from.items = omega (arith, hb.source, c.self.invariant.starts, ap (λ p. p.blocks) cut) in (
      hb,
      cut,
      sym {A = Bool} (get_or_read inside.applied.items batch.source c.index.result.now source c.index.ensures false) ∙ c.if-index.false,
      c.if-batch-index.false ∙ get_or_read inside.taken_from.items batch.source c.index-else-index.result.now start c.index-else-index.ensures 0,
    )

pub take_in-requires-clause-inside : goal.take_in-requires-clause-inside
take_in-requires-clause-inside g c =
    let at = (goal.at.take_in-requires-clause-inside g c).After-take_in-arg-1 in
    let r = goes_on g at in
    let node_range = c.self.inside.node_range in
    λ p d l.
    let here = batch_inside (g.N.Levels.lawful c.self.inside.level) c.self.invariant r.0 r.1 c.if-batch-self-2.false c.if-batch-self-3.false r.2 r.3 p d l in
    (here.0, omega (arith, here.1))

pub take_in-requires-clause-enough : goal.take_in-requires-clause-enough
take_in-requires-clause-enough g c =
    let at = (goal.at.take_in-requires-clause-enough g c).After-take_in-arg-1 in
    let r = goes_on g at in
    let net = g.N.Levels.net c.self.inside.level in
    let law = g.N.Levels.lawful c.self.inside.level in
    let node_range = c.self.inside.node_range in
    let codes = node_range.entries.codes in
    λ even k l.
    let place : k < length codes = omega (arith, l) in
    left_enough node_range.counters k (times (node_range.entries.first + k) (g.B.NodeList.items c.batch.inside.nodes))
    (apply_enough law c.self.invariant r.0 r.1 c.if-batch-self-2.false c.if-batch-self-3.false r.2 r.3 even k place)
    (apply_few law c.self.invariant r.0 r.1 c.if-batch-self-2.false c.if-batch-self-3.false r.2 r.3 even k place)

pub invariant_of-self : goal.invariant_of-self
invariant_of-self g c =
    let at = (goal.at.invariant_of-self g c).After-take_in-arg-1 in
    let r = goes_on g at in
    let inside = c.self.inside in
    let node_range = inside.node_range in
    let after = c.take_in.new.self in
    let made = c.take_in.ensures in
    rw (made.frame.wave, made.frame.first, made.due, made.last_due, made.most)
    (apply_holds (g.N.Levels.lawful inside.level) c.self.invariant r.0 r.1 c.if-batch-self-2.false c.if-batch-self-3.false r.2 r.3
    after.entries.codes (counts_of after.counters)
    (omega (arith, made.frame.len))
    (omega (arith, after.counted, node_range.counted, made.frame.len)) after.small made.taken)
