use Rattle.std.proofs.Common.{◌≡◌, ℕ, cond, sym, subst, arith}
use Rattle.std.proofs.lemmas.List.Sorted.{IsNonDecreasingBy-from_sort}
use Rattle.std.specs.List.{All}
use Rattle.morris_wave.specs.Nets.{times}
use Rattle.morris_wave.specs.Waves.{is_fresh}
use Rattle.morris_wave.specs.Blocks.{BlockState, IsIn}
use Rattle.morris_wave.specs.Batches.{FreshHolds}
use Rattle.morris_wave.proofs.Settled.{fresh_inside, fresh_between, fresh_nodes, fresh_from_to}
use Rattle.morris_wave.proofs.block.Block.fresh.Goals as goal

pub invariant_of-result : goal.invariant_of-result
invariant_of-result g c =
    let inside = c.self.inside in
    let node_range = inside.node_range in
    let law = g.N.Levels.lawful inside.level in
    let h = c.self.invariant in
    let nodes = c.sort_unstable.new.self.items in
    let same = c.sort_unstable.ensures.permutation in
    subst (λ (n : ℕ). FreshHolds (g.N.Levels.net inside.level) (record { level = inside.level; cut = inside.cut; wave = node_range.entries.wave; source = inside.number; low = 0; high = n; nodes = nodes })) (sym c.size-high.ensures.value)
    (record {
      cut = h.cut;
      size = h.size;
      source = h.number;
      wave = h.wave;
      order = omega arith;
      some = λ l. l;
      between = fresh_between law h same c.in_ok-nodes.ensures.inside;
      ascending = IsNonDecreasingBy-from_sort (λ x. x) nodes c.sort_unstable.ensures.sorted;
      inside = fresh_inside law h same c.in_ok-nodes.ensures.inside;
      once = fresh_from_to law h same c.in_ok-nodes.ensures.once;
    })

pub returns-clause-inside : goal.returns-clause-inside
returns-clause-inside g c =
    let law = g.N.Levels.lawful c.self.inside.level in
    let nodes = c.sort_unstable.new.self.items in
    subst (λ (t : BlockState). All (IsIn t.cut t.number) nodes) c.self.view_is (fresh_inside law c.self.invariant c.sort_unstable.ensures.permutation c.in_ok-nodes.ensures.inside)

pub returns-clause-nodes : goal.returns-clause-nodes
returns-clause-nodes g c =
    let law = g.N.Levels.lawful c.self.inside.level in
    let nodes = c.sort_unstable.new.self.items in
    subst (λ (t : BlockState). (i : ℕ) → IsIn t.cut t.number i → times i nodes ≡ cond {A = ℕ} (is_fresh (g.N.Levels.net t.level) t.wave i) 1 0) c.self.view_is
    (fresh_nodes law c.self.invariant c.sort_unstable.ensures.permutation c.in_ok-nodes.ensures.once)
