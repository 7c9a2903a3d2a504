use Rattle.std.proofs.Common.{◌≡◌, ℕ, ◌-◌, true, length, replicate, sym, ap, ◌∙◌, arith}
use Rattle.morris_wave.specs.NodeRanges.{NodeRangeHolds}
use Rattle.morris_wave.specs.Solving.{every}
use Rattle.morris_wave.specs.Blocks.{IsCut, first_of}
use Rattle.morris_wave.specs.Counts.{counts_of, most_of, AreFew}
use Rattle.morris_wave.proofs.Blocking.{make_holds}
use Rattle.morris_wave.proofs.block.Block.make_as.Goals as goal

pub invariant_of-result : goal.invariant_of-result
invariant_of-result g c =
    let level = g.G.Graph.level c.args.graph.now in
    let net = g.N.Levels.net level in
    let law = g.N.Levels.lawful level in
    let cut = c.args.cut.now in
    let node_range = c.in_ok-node_range.node_range in
    let codes = node_range.entries.codes in
    let is_cut : IsCut cut = record {
      small = omega (arith, c.requires.size, law.small);
      some = omega (arith, c.blocks-blocks.ensures.some, c.blocks-blocks.ensures.count);
      few = omega (arith, c.blocks-blocks.ensures.few, c.blocks-blocks.ensures.count);
    } in
    let start : c.range-range.result.start ≡ first_of cut c.args.number = c.range-range.ensures.start in
    let first : node_range.entries.first ≡ first_of cut c.args.number = c.in_ok-node_range.ensures.first ∙ start in
    let read : NodeRangeHolds net 0 every node_range.entries.first codes (counts_of node_range.counters) node_range.due node_range.last_due =
    rw c.in_ok-node_range.ensures.first c.in_ok-node_range.ensures.holds in
    let len : length codes ≡ c.range-range.result.end - c.range-range.result.start = omega (arith, c.in_ok-node_range.ensures.len) in
    let few : AreFew net node_range.entries.first (length codes) (most_of node_range.counters) =
    rw (len, c.in_ok-node_range.ensures.first) c.in_ok-node_range.ensures.few in
    let holds = make_holds law level c.args.number cut is_cut (sym c.requires.size) c.requires.number first
    (omega (arith, c.in_ok-node_range.ensures.len, start, c.range-range.ensures.end)) read few in
    let sources : c.in_ok-applied.applied.items ≡ replicate cut.blocks true = c.in_ok-applied.ensures.items_if_clones_equal (λ y e. e) ∙ ap (λ (n : ℕ). replicate n true) c.blocks-blocks.ensures.count in
    let starts : c.in_ok-taken_from.taken_from.items ≡ replicate cut.blocks 0 = c.in_ok-taken_from.ensures.items_if_clones_equal (λ y e. e) ∙ ap (λ (n : ℕ). replicate n 0) c.blocks-blocks.ensures.count in
    rw (c.level.ensures, c.in_ok-node_range.ensures.wave, sources, starts) holds
