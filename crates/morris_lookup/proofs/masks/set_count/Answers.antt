use Rattle.std.proofs.Common.{◌≤◌, ◌^◌, arith}
use Rattle.std.proofs.Math.Pow.{pow_mono}
use Rattle.morris_lookup.proofs.masks.set_count.Goals as goal

pub returns-clause-few : goal.returns-clause-few
returns-clause-few g c =
    let most : 2 ^ c.POINTS.result ≤ 2 ^ 24 = pow_mono {i = c.POINTS.result} {j = 24} (omega (arith, c.POINTS.ensures, g.met.B.Geometry.few)) in
    grind (arith, most)
