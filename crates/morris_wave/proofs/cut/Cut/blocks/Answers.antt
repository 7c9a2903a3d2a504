use Rattle.std.proofs.Common.{ap}
use Rattle.morris_wave.specs.Blocks.{Parts}
use Rattle.morris_wave.proofs.cut.Cut.blocks.Goals as goal

pub returns-clause-count : goal.returns-clause-count
returns-clause-count c = ap (λ (p : Parts). p.blocks) c.self.view_is

pub returns-clause-some : goal.returns-clause-some
returns-clause-some c = c.self.invariant.some

pub returns-clause-few : goal.returns-clause-few
returns-clause-few c = c.self.invariant.few
