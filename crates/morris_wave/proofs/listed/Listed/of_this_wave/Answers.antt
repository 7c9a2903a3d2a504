use Rattle.std.proofs.Common.{◌≡◌, ℕ, ◌+◌, ◌-◌, ◌<◌, ◌≤◌, ◌&&◌, List, ap, cond, ltb, eqb, length, get_or, take, drop, sym, subst, ◌∙◌, arith}
use Rattle.std.specs.List.{All}
use Rattle.morris_wave.specs.Nets.{times}
use Rattle.morris_wave.proofs.Ranks.{node_range_inside, node_range_once, node_range_none, node_range_more}
use Rattle.morris_wave.proofs.listed.Listed.of_this_wave.Goals as goal

pub loop-place-init : goal.loop-place-init
loop-place-init g c =
    let s = c.args.self.now in
    (omega arith, c.in_ok-nodes.ensures.items ∙ node_range_none s.before (g.L.NodeList.items s.decided))

pub loop-place-preserved : goal.loop-place-preserved
loop-place-preserved g c =
    let s = c.args.self.now in
    let inv = c.loop-place.invariant in (
      omega (arith, inv.0),
      c.in_ok-push.ensures.items ∙ node_range_more s.before c.loop-place.place (g.L.NodeList.items s.decided) c.loop-place.nodes.items c.node.result inv.0 (omega (arith, c.loop-place-test.true, s.ranked.within)) inv.1 c.node.ensures,
    )

pub returns-clause-inside : goal.returns-clause-inside
returns-clause-inside g c =
    let s = c.args.self.now in
    let inv = c.loop-place.invariant in
    let end : c.loop-place.place ≡ s.here = omega (arith, c.loop-place-test.false, s.ranked.starts) in
    let is : c.loop-place.nodes.items ≡ take (s.here - s.before) (drop s.before (g.L.NodeList.items s.decided)) = inv.1 ∙ ap (λ (p : ℕ). take (p - s.before) (drop s.before (g.L.NodeList.items s.decided))) end in
    subst (λ (xs : List ℕ). All (λ i. (s.first ≤ i) × (i < s.first + length s.codes)) xs) (sym is)
    (node_range_inside s.first s.wave s.before s.here s.codes (g.L.NodeList.items s.decided) s.ranked)

pub returns-clause-once : goal.returns-clause-once
returns-clause-once g c =
    let s = c.args.self.now in
    let inv = c.loop-place.invariant in
    let end : c.loop-place.place ≡ s.here = omega (arith, c.loop-place-test.false, s.ranked.starts) in
    let is : c.loop-place.nodes.items ≡ take (s.here - s.before) (drop s.before (g.L.NodeList.items s.decided)) = inv.1 ∙ ap (λ (p : ℕ). take (p - s.before) (drop s.before (g.L.NodeList.items s.decided))) end in
    subst (λ (xs : List ℕ). (k : ℕ) → k < length s.codes → times (s.first + k) xs ≡ cond {A = ℕ} (ltb 0 s.wave && eqb (get_or s.codes k 0) s.wave) 1 0) (sym is)
    (node_range_once s.first s.wave s.before s.here s.codes (g.L.NodeList.items s.decided) s.ranked)
