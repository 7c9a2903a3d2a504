use Rattle.std.proofs.Common.{rules}
use Rattle.std.proofs.lemmas.List.Sorted.{IsNonDecreasingBy-from_sort_by_key}
use Rattle.morris_wave.specs.Blocks.{BlockState}
use Rattle.morris_workers.proofs.making.sort.Goals as goal

pub returns-clause-order : goal.returns-clause-order
returns-clause-order g c = IsNonDecreasingBy-from_sort_by_key (λ (s : BlockState). s.number) _ c.sort_unstable_by_key.ensures.sorted (λ a r q k. search rules)
