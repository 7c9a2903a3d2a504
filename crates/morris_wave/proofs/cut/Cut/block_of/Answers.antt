use Rattle.std.proofs.Common.{◌<◌, sym, subst}
use Rattle.morris_wave.specs.Blocks.{Parts, IsIn}
use Rattle.morris_wave.proofs.Cutting.{block_is}
use Rattle.morris_wave.proofs.cut.Cut.block_of.Goals as goal

pub returns-clause-alone : goal.returns-clause-alone
returns-clause-alone c = λ k is.
    let parts : Parts = record { size = c.self.inside.size; blocks = c.self.inside.blocks } in
    let here : IsIn parts k c.args.i = subst (λ (p : Parts). IsIn p k c.args.i) (sym c.self.view_is) is in
    let within : c.args.i < parts.size = subst (λ (p : Parts). c.args.i < p.size) (sym c.self.view_is) c.requires in
    sym (block_is parts c.self.invariant c.args.i within k here)
