use Rattle.morris_pairs.proofs.CountLaws.{none_counted}
use Rattle.morris_pairs.proofs.counting.no_tallies.Goals as goal

pub returns-clause-none : goal.returns-clause-none
returns-clause-none c = none_counted c.args.count c.in_ok-tallies.tallies.items (c.in_ok-tallies.ensures.items_if_clones_equal (λ y e. e))
