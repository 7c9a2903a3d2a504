use Rattle.morris_index.proofs.BelowLaws.{below-start}
use Rattle.morris_index.proofs.below.Below.of.Goals as goal

pub returns : goal.returns
returns g c = below-start c.args.pair
