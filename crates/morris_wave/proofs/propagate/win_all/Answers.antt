use Rattle.std.proofs.Common.{◌≡◌, ◌<◌, ◌≤◌, ℕ, ◌+◌, ◌-◌, ◌&&◌, true, eqb, length, ap, subst, ◌∙◌, arith}
use Rattle.morris_wave.specs.Solving.{Marks}
use Rattle.morris_wave.proofs.Frames.{frame_joins}
use Rattle.morris_wave.proofs.Falling.{marked_more, node_place}
use Rattle.morris_wave.proofs.propagate.win_all.Goals as goal

pub loop-at-preserved : goal.loop-at-preserved
loop-at-preserved g c =
    let inv = c.loop-at.invariant in
    let first = c.args.entries.now.first in
    let nodes = g.B.NodeList.items c.args.nodes.now in
    let i = c.loop-at.at in
    let node = c.node-node.result in
    let more : i < length nodes = omega (arith, c.loop-at-test.true, c.loop-at.auto.at-end, c.count-at-end.ensures) in
    let place = node - c.loop-at.entries.first in
    let from : first ≤ node = omega (arith, (c.requires.inside i 0 more).0, c.node-node.ensures) in
    let at_place : (k : ℕ) → eqb place k ≡ eqb node (first + k) = λ k. ap (λ (f : ℕ). eqb (node - f) k) inv.0.first ∙ node_place first node from k in (
      frame_joins c.args.entries.now c.loop-at.entries c.mark.new.self inv.0 c.mark.ensures.frame,
      marked_more nodes i node more c.node-node.ensures first place at_place
          c.args.entries.now.codes c.loop-at.entries.codes c.mark.new.self.codes (c.args.entries.now.wave + 1) (omega arith) inv.0.len inv.1
          (subst (λ (w : ℕ). Marks c.loop-at.entries.codes c.mark.new.self.codes (λ k. eqb place k && true) (w + 1)) inv.0.wave c.mark.ensures.codes),
    )
