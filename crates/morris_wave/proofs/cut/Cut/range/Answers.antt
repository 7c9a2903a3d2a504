use Rattle.std.proofs.Common.{ℕ, ◌*◌, ◌/◌, ◌<◌, ap, ◌∙◌, arith}
use Rattle.std.proofs.Math.Nat.{mul-div_cancel}
use Rattle.morris_wave.proofs.cut.Cut.range.Goals as goal

pub returns-clause-last : goal.returns-clause-last
returns-clause-last c =
    λ e. let some : 0 < c.args.self.now.blocks = omega (arith, c.self.view_is, c.self.invariant.some, c.requires) in
    c.first-2.ensures.value
    ∙ (ap (λ (k : ℕ). (c.args.self.now.size * k) / c.args.self.now.blocks) e ∙ mul-div_cancel c.args.self.now.size some)
