use Rattle.std.proofs.Common.{ap}
use Rattle.morris_wave.specs.Blocks.{Parts}
use Rattle.morris_wave.proofs.cut.Cut.size.Goals as goal

pub returns-clause-value : goal.returns-clause-value
returns-clause-value c = ap (λ (p : Parts). p.size) c.self.view_is

pub returns-clause-small : goal.returns-clause-small
returns-clause-small c = c.self.invariant.small
