use Rattle.morris_index.proofs.BelowLaws.{table_at}
use Rattle.morris_index.proofs.below.pair_at.Goals as goal

pub returns : goal.returns
returns c = table_at c.args.place _ c.requires
