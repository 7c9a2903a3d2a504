use Rattle.std.proofs.Common.{length, ap, arith}
use Rattle.morris_wave.proofs.TwoBytes.{length-of_bytes}
use Rattle.morris_wave.proofs.codes.Codes.len.Goals as goal

pub returns : goal.returns
returns c =
    let inside = c.self.inside in
    omega (arith, c.len.ensures, ap length c.self.view_is, length-of_bytes inside.low.items inside.high.items, inside.low.ok.0)
