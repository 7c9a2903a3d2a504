use Rattle.morris_pairs.specs.Orders.{Full}
use Rattle.morris_table.proofs.building.build.Goals as goal

pub returns-clause-whenever : goal.returns-clause-whenever
returns-clause-whenever g c = c.build_as.ensures.whenever Full
