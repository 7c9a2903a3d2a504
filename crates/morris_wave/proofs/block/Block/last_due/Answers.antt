use Rattle.morris_wave.proofs.Stretches.{late_deep}
use Rattle.morris_wave.proofs.Settled.{last_due_is}
use Rattle.morris_wave.proofs.block.Block.last_due.Goals as goal

pub returns : goal.returns
returns g c =
    let law = g.N.Levels.lawful c.self.inside.level in
    rw (← c.self.view_is) (record { value = last_due_is law c.self.invariant; deep = late_deep law c.self.invariant.node_range })
