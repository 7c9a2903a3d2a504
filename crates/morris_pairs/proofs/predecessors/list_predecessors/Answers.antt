use Rattle.std.proofs.Common.{ℕ, List, ◌++◌, length, ap, ◌∙◌, arith}
use Rattle.morris_wave.specs.Nets.{times}
use Rattle.morris_pairs.proofs.predecessors.list_predecessors.Goals as goal

pub returns-clause-times : goal.returns-clause-times
returns-clause-times g c =
    let more = c.in_default.ensures in
    λ j low. ap (times j) (more.follow ∙ ap (λ (xs : List ℕ). xs ++ more.added) c.clear.ensures.items) ∙ more.often j low

pub returns-clause-nodes : goal.returns-clause-nodes
returns-clause-nodes g c =
    let more = c.in_default.ensures in
    rw (more.follow, c.clear.ensures.items) more.nodes

pub returns-clause-few : goal.returns-clause-few
returns-clause-few g c =
    let more = c.in_default.ensures in
    omega (
      arith,
      ap length (more.follow ∙ ap (λ (xs : List ℕ). xs ++ more.added) c.clear.ensures.items),
      more.few,
      c.add_predecessors.new.out.ok.0,
    )
