use Rattle.std.proofs.Common.{arith}
use Rattle.morris_wave.proofs.Summaries.{exits_of-joined}
use Rattle.morris_wave.proofs.graph.Exits.merge.Goals as goal

pub returns-then-self : goal.returns-then-self
returns-then-self c = λ before after is other_is.
    exits_of-joined before after c.args.self c.args.other is other_is _ _ _ c.least_of_both.ensures c.greatest_of_both.ensures (grind (arith, c.if-self.true))

pub returns-else-self : goal.returns-else-self
returns-else-self c = λ before after is other_is.
    exits_of-joined before after c.args.self c.args.other is other_is _ _ _ c.least_of_both.ensures c.greatest_of_both.ensures (grind (arith, c.if-self.false))
