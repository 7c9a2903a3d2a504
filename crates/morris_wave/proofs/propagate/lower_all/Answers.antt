use Rattle.std.proofs.Common.{◌≡◌, ◌<◌, ◌≤◌, ℕ, ◌+◌, ◌-◌, ◌%◌, ◌&&◌, eqb, List, length, slice_index, sym, ap, subst, ◌∙◌, arith, length-set, take}
use Rattle.morris_wave.specs.Nets.{times}
use Rattle.morris_wave.specs.Solving.{Marks, among}
use Rattle.morris_wave.specs.NodeRanges.{LowersBy, left_of}
use Rattle.morris_wave.proofs.Frames.{frame_joins}
use Rattle.morris_wave.proofs.Falling.{small_set, falls_left, lowers_more, spent_more, node_place}
use Rattle.morris_wave.proofs.propagate.lower_all.Goals as goal

pub loop-at-preserved : goal.loop-at-preserved
loop-at-preserved g c =
    let inv = c.loop-at.invariant in
    let first = c.args.entries.now.first in
    let nodes = g.B.NodeList.items c.args.nodes.now in
    let i = c.loop-at.at in
    let node = c.node-node.result in
    let more : i < length nodes = omega (arith, c.loop-at-test.true, c.loop-at.auto.at-end, c.count-at-end.ensures) in
    let old = g.C.CounterList.counts c.args.counters.now in
    let mid = g.C.CounterList.counts c.loop-at.counters in
    let place = node - c.loop-at.entries.first in
    let at = c.requires.inside i 0 more in
    let within : (first ≤ node) × (node < first + length c.args.entries.now.codes) = (omega (arith, at.0, c.node-node.ensures), omega (arith, at.1, c.node-node.ensures)) in
    let l : place < length old = omega (arith, within.0, within.1, inv.0.first, c.requires.counters) in
    let e = λ (k : ℕ). first + k in
    let at_place : (k : ℕ) → k < length old → eqb place k ≡ eqb node (first + k) = λ k kl. ap (λ (f : ℕ). eqb (node - f) k) inv.0.first ∙ node_place first node within.0 k in
    let now = (slice_index mid place + 65535) % 65536 in
    let enough : times (first + place) nodes ≤ left_of (slice_index old place) = omega (arith, c.requires.enough place l, c.requires.falls.less (slice_index old place)) in (
      frame_joins c.args.entries.now c.loop-at.entries c.mark.new.self inv.0 c.mark.ensures.frame,
      ap length c.lower-spent.ensures.lowered ∙ (length-set mid place now ∙ inv.1),
      subst (λ (xs : List ℕ). LowersBy e old xs (take (i + 1) nodes)) (sym c.lower-spent.ensures.lowered)
          (lowers_more e nodes i node place more c.node-node.ensures old mid at_place inv.1 inv.2 l),
      subst (λ (xs : List ℕ). Marks c.args.entries.now.codes c.mark.new.self.codes (λ k. among (take (i + 1) nodes) (first + k) && eqb (slice_index xs k) 0) (c.args.entries.now.wave + 1)) (sym c.lower-spent.ensures.lowered)
          (spent_more e nodes i node place more c.node-node.ensures old mid at_place inv.1 inv.2 l
          c.args.entries.now.codes c.loop-at.entries.codes c.mark.new.self.codes (c.args.entries.now.wave + 1) now c.lower-spent.result
          (omega arith) inv.0.len (omega (arith, c.requires.counters)) enough c.lower-spent.ensures.spent inv.3
          (subst (λ (w : ℕ). Marks c.loop-at.entries.codes c.mark.new.self.codes (λ k. eqb place k && c.lower-spent.result) (w + 1)) inv.0.wave c.mark.ensures.codes)),
      subst (λ (xs : List ℕ). (k : ℕ) → k < length xs → slice_index xs k < 65536) (sym c.lower-spent.ensures.lowered) (small_set mid place now inv.4 (omega arith)),
    )

pub lower-spent-requires-clause-left : goal.lower-spent-requires-clause-left
lower-spent-requires-clause-left g c =
    let inv = c.loop-at.invariant in
    let first = c.args.entries.now.first in
    let nodes = g.B.NodeList.items c.args.nodes.now in
    let i = c.loop-at.at in
    let node = c.node-node.result in
    let more : i < length nodes = omega (arith, c.loop-at-test.true, c.loop-at.auto.at-end, c.count-at-end.ensures) in
    let old = g.C.CounterList.counts c.args.counters.now in
    let mid = g.C.CounterList.counts c.loop-at.counters in
    let place = node - c.loop-at.entries.first in
    let at = c.requires.inside i 0 more in
    let within : (first ≤ node) × (node < first + length c.args.entries.now.codes) = (omega (arith, at.0, c.node-node.ensures), omega (arith, at.1, c.node-node.ensures)) in
    let l : place < length old = omega (arith, within.0, within.1, inv.0.first, c.requires.counters) in
    let at_place : (k : ℕ) → k < length old → eqb place k ≡ eqb node (first + k) = λ k kl. ap (λ (f : ℕ). eqb (node - f) k) inv.0.first ∙ node_place first node within.0 k in
    falls_left (λ k. first + k) nodes i node place more c.node-node.ensures old mid at_place inv.1 inv.2 l
    g.C.CounterList.left c.requires.falls.less c.requires.falls.same (c.requires.enough place l)
