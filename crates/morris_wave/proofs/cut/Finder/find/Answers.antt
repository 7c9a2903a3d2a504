use Rattle.std.proofs.Common.{◌≡◌, ◌+◌, ◌*◌, ◌^◌, ◌<◌, ◌≤◌, ℕ, sym, subst, arith}
use Rattle.std.proofs.Math.Nat.{mul-le-mul_right}
use Rattle.morris_wave.specs.Blocks.{IsIn}
use Rattle.morris_wave.proofs.Cutting.{high_half_is, is_in_block}
use Rattle.morris_wave.proofs.cut.Finder.find.Goals as goal

pub returns-then-self-gt0-clause-value : goal.returns-then-self-gt0-clause-value
returns-then-self-gt0-clause-value c =
    let f = c.args.self.now in
    let size = f.cut.size in
    let low = c.carrying_mul-block.result.0 in
    let some : 0 < f.reciprocal = omega (arith, c.if-self-gt0.true) in
    let scaled : size * size ≤ 2 ^ 32 * size = mul-le-mul_right size (f.small some) in
    let square : size * size ≤ 2 ^ 64 = omega (arith, scaled, f.small some) in
    let half : low < 2 ^ 64 = omega (arith, c.carrying_mul-block.type_inv) in
    let product : low + c.carrying_mul-block.result.1 * 2 ^ 64 ≡ (c.args.i + 1) * f.reciprocal = omega (arith, c.carrying_mul-block.ensures) in
    high_half_is c.args.i size f.cut.blocks f.reciprocal (2 ^ 64) low c.carrying_mul-block.result.1 c.requires square (f.below some) (f.above some) half product

pub returns-then-self-gt0-clause-holds : goal.returns-then-self-gt0-clause-holds
returns-then-self-gt0-clause-holds c =
    subst (λ (b : ℕ). IsIn c.args.self.now.cut b c.args.i) (sym (returns-then-self-gt0-clause-value c)) (is_in_block c.args.self.now.cut c.args.self.now.lawful c.args.i c.requires)
