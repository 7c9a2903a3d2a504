use Rattle.morris_wave.proofs.Gathered.{entries_are}
use Rattle.morris_wave.proofs.gathering.entries_of.Goals as goal

pub returns-clause-codes : goal.returns-clause-codes
returns-clause-codes g c = rw (← c.block.view_is) (entries_are (g.N.Levels.lawful c.block.inside.level) c.block.invariant)
